-- Lemmas about the turn of a port on a board, from the grant of the line to its release.
use Rattle.std.proofs.Common.{◌≡◌, ℕ, ◌+◌, ◌<◌, false, Bool, List, [], ◌∷◌, ◌++◌, length, replicate, refl, ap, sym, ◌∙◌, subst, arith, append-nil}
use Rattle.std.proofs.lemmas.Option.{slice_get_within}
use Rattle.std.specs.Prelude.{bit_or}
use Rattle.std.specs.Int.Bits.{or_zero_l}
use Rattle.line_lanes.specs.Mask.{changed_mask}
use Rattle.line_lanes.specs.Line.{merged}
use Rattle.qolb_model.specs.declared.write.Write.{Write}
use Rattle.qolb_model.specs.declared.end.End.{End}
use Rattle.qolb_model.specs.declared.end.End.TheVariants.{Served, Gone}
use Rattle.qolb_model.specs.declared.view.View.{View}
use Rattle.qolb_model.specs.declared.config.LineConfig.{LineConfig}
use Rattle.qolb_model.specs.Leases.{closes}
use Rattle.qolb_model.specs.Kept.{IsKept}
use Rattle.qolb_model.specs.Ends.{bytes_after, written}
use Rattle.qolb_model.specs.Views.{own, bytes_of, Extends}
use Rattle.qolb_model.specs.PortStates.{state_after}
use Rattle.qolb_model.specs.Releasing.{AfterRelease}
use Rattle.qolb_model.specs.OneOwner.{turn_after}
use Rattle.qolb_model.specs.Calls.{Releases}
use Rattle.qolb_model.specs.Sound.{IsSound}
use Rattle.qolb_model.specs.AtTurn.{IsGranted, IsClearBefore}
use Rattle.qolb_model.proofs.Bounds.{prefix_get_back}
use Rattle.qolb_model.proofs.Requests.{has_prefix}
use Rattle.qolb_model.proofs.Writes.{bytes_after-release, good_after}
use Rattle.line_board.specs.Board.{Stand, IsBoard}
use Rattle.line_board.specs.Law.{Changes, changed_board}
use Rattle.line_board.specs.PutsAndTakes.{put_between, taken_between, standing, puts_of, takes_of}
use Rattle.line_board.specs.Calls.{HadTurn, HasPut, HasTaken, HasFound}
use Rattle.line_board.proofs.Steps.{standing-stand, put_same, taken_same, put_last, taken_last, put_first, taken_first}
use Rattle.line_board.proofs.Writing.{merged-changed, changed_mask-self}
use Rattle.line_board.proofs.Balance.{puts-append, puts-passed, takes-append, takes-passed}

-- a sound port knows the bytes of a board
pub board_known : (v : View) → IsBoard v.config.opening.bytes → IsKept Changes v → IsBoard (bytes_of v)
board_known v opened kept = good_after IsBoard Changes changed_board v.config.opening.bytes v.ends opened kept

-- the puts and takes of ends and of one service more
module _ (bytes : List ℕ) (ends : List End) (write : Write) (shut : Bool) (passed : ℕ) (found left : List ℕ) (stood : Stand (bytes_after bytes ends) found) (stands : Stand (written (bytes_after bytes ends) write) left) where
  at_first : standing (bytes_after bytes ends) ≡ found
  at_first = standing-stand (bytes_after bytes ends) found stood

  at_last : standing (written (bytes_after bytes ends) write) ≡ left
  at_last = standing-stand (written (bytes_after bytes ends) write) left stands

  pub puts-turn : puts_of bytes (ends ++ Served write shut ∷ replicate passed Gone) ≡ puts_of bytes ends ++ put_between found left
  puts-turn =
      puts-append bytes ends (Served write shut ∷ replicate passed Gone)
      ∙ rw (puts-passed (written (bytes_after bytes ends) write) passed, at_first, at_last) (ap (λ p. puts_of bytes ends ++ p) (append-nil (put_between found left)))

  pub takes-turn : takes_of bytes (ends ++ Served write shut ∷ replicate passed Gone) ≡ takes_of bytes ends ++ taken_between found left
  takes-turn =
      takes-append bytes ends (Served write shut ∷ replicate passed Gone)
      ∙ rw (takes-passed (written (bytes_after bytes ends) write) passed, at_first, at_last) (ap (λ p. takes_of bytes ends ++ p) (append-nil (taken_between found left)))

-- the turn from a grant to a release
module _ (old new : View) (first write : Write) (granted : IsGranted old first) (released : Releases Changes false old new write) where
  more : Extends old new
  more = released.continues.extends

  leaves : written (bytes_of old) write ≡ bytes_of new
  leaves =
      sym (bytes_after-release old.config.opening.bytes old.ends write (closes old.config.lease old.ends false) released.ends_turn.passed)
      ∙ (ap (bytes_after old.config.opening.bytes) (sym released.ends_turn.ends)
      ∙ ap (λ (t : LineConfig). bytes_after t.opening.bytes new.ends) (sym more.config))

  clear : IsClearBefore new (length old.ends)
  clear p r e at in_order in_ends not_gone =
      let short : length old.ends < length old.order = slice_get_within old.order (length old.ends) (own old) granted.at_turn in
      has_prefix old.clear new.clear r more.clear (granted.clear_before p r e at
      (prefix_get_back old.order new.order p r more.order (omega arith) in_order)
      (prefix_get_back old.ends new.ends p e more.ends (omega arith) in_ends) not_gone)

  module _ (found left puts takes : List ℕ) (stood : Stand (bytes_of old) found) (stands : Stand write.bytes.bytes left) (masked : write.mask.0 ≡ changed_mask (bytes_of old) write.bytes.bytes) (put : put_between found left ≡ puts) (taken : taken_between found left ≡ takes) where
    stands_after : Stand (bytes_of new) left
    stands_after = subst (λ b. Stand b left) (sym released.bytes) stands

    written_after : Stand (written (bytes_of old) write) left
    written_after = subst (λ b. Stand b left) (sym leaves) stands_after

    pub had_turn : HadTurn found left puts takes new
    had_turn = record {
      before = old.ends;
      write = write;
      passed = released.ends_turn.passed;
      ends = rw more.config released.ends_turn.ends;
      at_turn = released.ends_turn.at_turn;
      was_open = granted.is_open;
      found_there = rw more.config stood;
      left_there = stands_after;
      mask =
          masked
          ∙ (ap (changed_mask (bytes_of old)) (sym released.bytes)
          ∙ ap (λ (t : LineConfig). changed_mask (bytes_after t.opening.bytes old.ends) (bytes_of new)) (sym more.config));
      put = rw (more.config, released.ends_turn.ends) (puts-turn old.config.opening.bytes old.ends write (closes old.config.lease old.ends false) released.ends_turn.passed found left stood written_after ∙ ap (λ p. puts_of old.config.opening.bytes old.ends ++ p) put);
      taken = rw (more.config, released.ends_turn.ends) (takes-turn old.config.opening.bytes old.ends write (closes old.config.lease old.ends false) released.ends_turn.passed found left stood written_after ∙ ap (λ p. takes_of old.config.opening.bytes old.ends ++ p) taken);
      clear_before = clear;
      releases = subst (λ (t : LineConfig). AfterRelease (length old.ends + 1) (state_after (closes t.lease old.ends false)) new) (sym more.config) released.ends_turn.releases;
    }

  -- if nothing was written
  pub has_found : (tasks : List ℕ) → first ≡ write → Stand (bytes_of old) tasks → HasFound (length tasks) new
  unfolding had_turn
  has_found tasks e stood =
      let same : write.bytes.bytes ≡ bytes_of old = sym (ap (λ (w : Write). w.bytes.bytes) e) ∙ granted.bytes in
      let none : write.mask.0 ≡ changed_mask (bytes_of old) write.bytes.bytes =
      sym (ap (λ (w : Write). w.mask.0) e) ∙ (granted.no_mask ∙ (sym (changed_mask-self (bytes_of old)) ∙ ap (changed_mask (bytes_of old)) (sym same))) in
      record {
        tasks = tasks;
        counted = refl;
        turn = had_turn tasks tasks [] [] stood (subst (λ b. Stand b tasks) (sym same) stood) none (put_same tasks) (taken_same tasks);
        same = released.bytes ∙ (same ∙ ap (λ (t : LineConfig). bytes_after t.opening.bytes old.ends) (sym more.config));
      }

-- the write of a turn that writes the bytes which differ
module _ (v : View) (first after : Write) (mask : ℕ) (new : List ℕ) (granted : IsGranted v first) (long : length new ≡ 64) (is : mask ≡ changed_mask first.bytes.bytes new) (wrote : after ≡ turn_after first mask new) where
  pub new_bytes : after.bytes.bytes ≡ new
  new_bytes = ap (λ (w : Write). w.bytes.bytes) wrote ∙ (ap (merged first.bytes.bytes new) is ∙ merged-changed first.bytes.bytes new long)

  pub new_mask : after.mask.0 ≡ changed_mask (bytes_of v) after.bytes.bytes
  new_mask =
      ap (λ (w : Write). w.mask.0) wrote
      ∙ (ap (λ m. bit_or m mask) granted.no_mask
      ∙ (or_zero_l mask
      ∙ (is
      ∙ (ap (λ b. changed_mask b new) granted.bytes ∙ ap (changed_mask (bytes_of v)) (sym new_bytes)))))

-- a sound port that was granted the line finds a board
pub found_board : (label : ℕ) (config : LineConfig) (v : View) → IsSound IsBoard Changes label config v → IsBoard (bytes_of v)
found_board label config v sound = board_known v (rw sound.config_is sound.opened_good) sound.kept

-- the turn of a put, and of a take
pub has_put : (found : List ℕ) (task : ℕ) (new : View) → HadTurn found (found ++ task ∷ []) (put_between found (found ++ task ∷ [])) (taken_between found (found ++ task ∷ [])) new → HasPut task new
has_put found task new turn = record {
  found = found;
  turn =
      subst (λ t. HadTurn found (found ++ task ∷ []) (task ∷ []) t new) (taken_last found task)
      (subst (λ p. HadTurn found (found ++ task ∷ []) p (taken_between found (found ++ task ∷ [])) new) (put_last found task) turn);
}

pub has_taken : (task : ℕ) (left : List ℕ) (new : View) → HadTurn (task ∷ left) left (put_between (task ∷ left) left) (taken_between (task ∷ left) left) new → HasTaken task new
has_taken task left new turn = record {
  left = left;
  turn =
      subst (λ t. HadTurn (task ∷ left) left [] t new) (taken_first task left)
      (subst (λ p. HadTurn (task ∷ left) left p (taken_between (task ∷ left) left) new) (put_first task left) turn);
}
