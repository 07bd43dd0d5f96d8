-- Lemmas shared by the proofs of all steps with which a node takes the line.
use Rattle.qolb_model.specs.declared.config.LineConfig.{LineConfig}
use Rattle.std.proofs.Common.{◌≡◌, ℕ, ◌<◌, Bool, true, false, List, [], length, inl, refl, sym, ◌∙◌, ap, subst}
use Rattle.link_core.specs.declared.place.Place.TheVariants.{Hand}
use Rattle.link_core.specs.declared.entry.Entry.{Entry}
use Rattle.line_lanes.specs.Line.{merged}
use Rattle.link_core.specs.Places.{requester_at, IsLast}
use Rattle.qolb_model.specs.Ends.{is_closed, bytes_after}
use Rattle.qolb_model.specs.Queue.{Queue}
use Rattle.qolb_model.specs.declared.end.End.{End}
use Rattle.qolb_model.specs.declared.request.Request.{Request}
use Rattle.link_core.specs.State.{State, NodeCall, seat, IsNode, last_or, is_clear}
use Rattle.link_core.specs.Shown.{is_rolled, has_line, IsWhole, IsCarried, Lies, in_hand, Sits}
use Rattle.line_lanes.specs.declared.line.Line64.{Line64}
use Rattle.line_lanes.proofs.Masked.{merged-self}
use Rattle.qolb_model.proofs.Agreed.{length-bytes_after}
use Rattle.link_core.specs.State.{no_mask}
use Rattle.link_core.specs.Steps.{seat_at_arrival, told_at_arrival}
use Rattle.link_core.specs.Promise.{Says}

-- nothing is written yet
merged_none : (config : LineConfig) (es : List End) (bytes : List ℕ) → length config.opening.bytes ≡ 64 → bytes ≡ bytes_after config.opening.bytes es → merged (bytes_after config.opening.bytes es) bytes 0 ≡ bytes
merged_none config es bytes long e = ap (λ (b : List ℕ). merged b bytes 0) (sym e) ∙ merged-self bytes 0 (ap length e ∙ length-bytes_after config.opening.bytes es long)

module _ (config : LineConfig) (c d : State) (o : List Request) (es : List End) (n : ℕ) (l : length es < length o) (turn : requester_at o (length es) ≡ n) (w : IsWhole config c es) (long : length config.opening.bytes ≡ 64)
    (node : IsNode d n) (place : d.place ≡ Hand n) (mask : d.mask ≡ no_mask) (closed : d.closed ≡ c.closed) (bytes : d.bytes ≡ c.bytes) (own : seat d n ≡ seat_at_arrival n c.closed) where
  pub arrival_lies : Lies config d o es
  arrival_lies = in_hand n l node place
      (ap (λ (s : NodeCall). has_line s.point) own ∙ lined c.closed) (turn ∙ sym (ap (λ (s : NodeCall). last_or n s.passed) own ∙ at c.closed)) (subst (λ (s : NodeCall). IsCarried config d o es n s.reason s.passed) (sym own) (carried c.closed refl))
    where
      lined : (b : Bool) → has_line (seat_at_arrival n b).point ≡ true
      lined true = refl
      lined false = refl

      at : (b : Bool) → last_or n (seat_at_arrival n b).passed ≡ n
      at true = refl
      at false = refl

      same : d.bytes.bytes ≡ bytes_after config.opening.bytes es
      same = ap (λ (l : Line64). l.bytes) bytes ∙ w.bytes

      carried : (b : Bool) → c.closed ≡ b → IsCarried config d o es n (seat_at_arrival n b).reason (seat_at_arrival n b).passed
      carried true e = (closed ∙ e, sym w.closed ∙ e, same)
      carried false e = (closed ∙ e, sym w.closed ∙ e, rw mask (merged_none config es d.bytes.bytes long same), inl (ap (λ (s : NodeCall). s.point) (own ∙ ap (seat_at_arrival n) e)))

  pub arrival_sits : Sits d o es n (seat_at_arrival n c.closed).point
  arrival_sits = go c.closed own
    where
      go : (b : Bool) → seat d n ≡ seat_at_arrival n b → Sits d o es n (seat_at_arrival n b).point
      go true e = record { place = place; is = ap (λ (s : NodeCall). last_or n s.passed) e }
      go false e = (record { place = place; is = ap (λ (s : NodeCall). last_or n s.passed) e }, ap (λ (s : NodeCall). s.reason) e, ap (λ (s : NodeCall). s.passed) e)

pub arrival_says : (h : Queue) (n : ℕ) (b : Bool) → b ≡ is_closed h.ends → IsLast h.order n (length h.ends) → Says h n (told_at_arrival b)
arrival_says h n true e l = tt
arrival_says h n false e l = record { last = l; open' = sym e }

pub arrival_unrolled : (n : ℕ) (b : Bool) → is_rolled (seat_at_arrival n b).point ≡ false
arrival_unrolled n true = refl
arrival_unrolled n false = refl

pub arrival_unclear : (n : ℕ) (b : Bool) (w : Entry) → is_clear (seat_at_arrival n b).point w ≡ false
arrival_unclear n true w = refl
arrival_unclear n false w = refl

pub arrival_unpassed : (n : ℕ) (b : Bool) → (seat_at_arrival n b).passed ≡ []
arrival_unpassed n true = refl
arrival_unpassed n false = refl
