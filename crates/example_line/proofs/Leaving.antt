-- Lemmas about one turn in which a node holds the line: what it found in the line, and what it left there.
use Rattle.std.proofs.Common.{◌≡◌, ℕ, ◌^◌, ◌<◌, false, List, ◌∷◌, ◌++◌, length, drop, replicate, ap, sym, subst, ◌∙◌, arith}
use Rattle.line_lanes.specs.declared.line.Line64.{Line64}
use Rattle.line_lanes.specs.Lane.{lane_of, with_lane_of}
use Rattle.line_lanes.proofs.Masked.{merged-all}
use Rattle.qolb_model.specs.declared.end.End.TheVariants.{Served, Gone}
use Rattle.qolb_model.specs.declared.config.LineConfig.{LineConfig}
use Rattle.qolb_model.specs.declared.view.View.{View}
use Rattle.qolb_model.specs.declared.write.Write.{Write}
use Rattle.qolb_model.specs.Ends.{bytes_after}
use Rattle.qolb_model.specs.Leases.{closes}
use Rattle.qolb_model.specs.AtTurn.{IsGranted}
use Rattle.qolb_model.specs.Calls.{Releases}
use Rattle.qolb_model.specs.OneOwner.{turn_after}
use Rattle.example_line.specs.Mailbox.{HadTurn}

-- the first lane of a line in which it was replaced by `value`
pub first_lane : (line : List ℕ) (value : ℕ) → value < 2 ^ 64 → lane_of (with_lane_of line 0 value) 0 ≡ value
first_lane line value small = omega (arith, small)

-- A turn was granted, found `found` in the first lane, wrote `left` there, kept the other lanes, and was then released.
pub record Wrote (allows : List ℕ → List ℕ → Type 0) (mid new : View) (turn write : Write) (found left : ℕ) : Type 0 where
  pub granted : IsGranted mid turn
  pub releases : Releases allows false mid new write
  pub lay : lane_of turn.bytes.bytes 0 ≡ found
  pub lies : lane_of write.bytes.bytes 0 ≡ left
  pub others : drop 8 write.bytes.bytes ≡ drop 8 turn.bytes.bytes

-- a turn that writes the whole line `laid`, which is the line that it holds with another first lane
pub wrote : (allows : List ℕ → List ℕ → Type 0) (mid at_release new : View) (turn write : Write) (held laid : Line64) (found left : ℕ) → left < 2 ^ 64 → length laid.bytes ≡ 64
    → IsGranted mid turn → held ≡ turn.bytes → lane_of held.bytes 0 ≡ found → laid.bytes ≡ with_lane_of held.bytes 0 left → write ≡ turn_after turn 18446744073709551615 laid.bytes
    → at_release ≡ mid → Releases allows false at_release new write → Wrote allows mid new turn write found left
wrote allows mid at_release new turn write held laid found left small long granted holds finds lays writes same releases =
    let now : write.bytes.bytes ≡ with_lane_of held.bytes 0 left = ap (λ (w : Write). w.bytes.bytes) writes ∙ (merged-all turn.bytes.bytes laid.bytes long ∙ lays) in
    record {
      granted = granted;
      releases = subst (λ (v : View). Releases allows false v new write) same releases;
      lay = ap (λ (line : Line64). lane_of line.bytes 0) (sym holds) ∙ finds;
      lies = ap (λ (b : List ℕ). lane_of b 0) now ∙ first_lane held.bytes left small;
      others = ap (drop 8) now ∙ ap (λ (line : Line64). drop 8 line.bytes) holds;
    }

pub had_turn : (allows : List ℕ → List ℕ → Type 0) (mid new : View) (turn write : Write) (found left : ℕ) → Wrote allows mid new turn write found left → HadTurn found left new
had_turn allows mid new turn write found left wrote =
    let same = wrote.releases.continues.extends.config in
    let passed = wrote.releases.ends_turn.passed in record {
      before = mid.ends;
      write = write;
      passed = passed;
      ends = subst (λ (t : LineConfig). new.ends ≡ mid.ends ++ Served write (closes t.lease mid.ends false) ∷ replicate passed Gone) (sym same) wrote.releases.ends_turn.ends;
      at_turn = wrote.releases.ends_turn.at_turn;
      lay = ap (λ (t : LineConfig). lane_of (bytes_after t.opening.bytes mid.ends) 0) same ∙ (ap (λ (b : List ℕ). lane_of b 0) (sym wrote.granted.bytes) ∙ wrote.lay);
      lies = ap (λ (b : List ℕ). lane_of b 0) wrote.releases.bytes ∙ wrote.lies;
      others = ap (drop 8) wrote.releases.bytes ∙ (wrote.others ∙ (ap (drop 8) wrote.granted.bytes ∙ sym (ap (λ (t : LineConfig). drop 8 (bytes_after t.opening.bytes mid.ends)) same)));
    }
