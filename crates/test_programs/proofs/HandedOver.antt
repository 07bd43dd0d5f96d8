-- Lemmas about a handoff of the line from one node to another: which bytes the next holder sees.
use Rattle.std.proofs.Common.{◌≡◌, ℕ, List, [], ◌∷◌, length, ap, sym, ◌∙◌, arith, Some}
use Rattle.qolb_model.specs.declared.config.LineConfig.{LineConfig}
use Rattle.qolb_model.specs.declared.answer.PortState.TheVariants.{Holding}
use Rattle.qolb_model.specs.declared.view.View.{View}
use Rattle.qolb_model.specs.Ends.{bytes_after}
use Rattle.qolb_model.specs.Histories.{turn_of}
use Rattle.qolb_model.specs.Views.{own, bytes_of, Extends}
use Rattle.qolb_model.specs.OneHistory.{OneHistory}
use Rattle.qolb_model.specs.Meeting.{Meets}
use Rattle.qolb_model.proofs.Prefixes.{prefix_length, prefix_get, prefix_whole}
use Rattle.qolb_model.proofs.Histories.{same_place_legal}
use Rattle.qolb_model.proofs.Longer.{longer_first, longer_swap}
use Rattle.qolb_model.proofs.Agreeing.{among_first, among_second, extends_trans}
use Rattle.test_programs.specs.HandingOver.{HandsOver}

-- a holder knows all ends, and so does a port whose view is merged with the holder's
pub holder_tells : (v w new : View) → OneHistory (v ∷ w ∷ []) → w.state ≡ Holding → turn_of w.order w.ends ≡ Some (own w) → Meets v w new → new.ends ≡ w.ends
holder_tells v w new h holding turn met =
    let one = h.known v (among_first v (w ∷ [])) in
    let two = h.known w (among_second v w []) in
    let ended = same_place_legal h.config.lease h.order h.ends h.legal (length h.ends) (length w.ends) (own w) (two.holder holding) (prefix_get w.order h.order (length w.ends) (own w) two.order_begins turn) in
    let fewer = prefix_length v.ends h.ends one.ends_begin in
    met.ends ∙ (longer_swap v.ends w.ends h.ends one.ends_begin two.ends_begin ∙ longer_first w.ends v.ends (omega arith))

same_bytes_of : (v w : View) → v.ends ≡ w.ends → v.config.opening.bytes ≡ w.config.opening.bytes → bytes_of v ≡ bytes_of w
same_bytes_of v w e o = ap (λ bytes. bytes_after bytes v.ends) o ∙ ap (bytes_after w.config.opening.bytes) e

pub handed_over :
    (old held freed new next : View) (config : LineConfig) (released seen : List ℕ)
    → Extends old held → Extends held freed → Extends freed new → released ≡ bytes_of freed → seen ≡ bytes_of next
    → OneHistory (freed ∷ next ∷ []) → next.state ≡ Holding → turn_of next.order next.ends ≡ Some (own next) → Meets freed next new
    → new.config ≡ config → next.config ≡ config → HandsOver old new released seen
handed_over old held freed new next config released seen a b c leaves sees h holding turn met o p =
    let told = holder_tells freed next new h holding turn met in
    let known : seen ≡ bytes_of new = sees ∙ sym (same_bytes_of new next told (ap (λ (t : LineConfig). t.opening.bytes) (o ∙ sym p))) in
    record {
      at_release = freed;
      later = extends_trans old held freed a b;
      since = c;
      releases = leaves;
      sees = known;
      same = λ long. known ∙ same_bytes_of new freed (sym (prefix_whole freed.ends new.ends c.ends (omega arith))) (ap (λ (t : LineConfig). t.opening.bytes) c.config) ∙ sym leaves;
    }
