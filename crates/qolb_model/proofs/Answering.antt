-- Lemmas that derive the whole guarantee of a call from the facts about the answer that the call gave.
use Rattle.std.proofs.Common.{◌≡◌, ℕ, List, inl, inr, refl}
use Rattle.qolb_model.specs.declared.answer.Enq.{Enq}
use Rattle.qolb_model.specs.declared.answer.Enq.TheVariants as enq
use Rattle.qolb_model.specs.declared.answer.Prep.{Prep}
use Rattle.qolb_model.specs.declared.answer.Poll.{Poll}
use Rattle.qolb_model.specs.declared.answer.Prep.TheVariants as prep
use Rattle.qolb_model.specs.declared.answer.Out.{Out}
use Rattle.qolb_model.specs.declared.answer.Poll.TheVariants as poll
use Rattle.qolb_model.specs.declared.answer.Out.TheVariants as out
use Rattle.qolb_model.specs.declared.view.View.{View}
use Rattle.qolb_model.specs.declared.write.Write.{Write}
use Rattle.qolb_model.specs.Sound.{Continues}
use Rattle.qolb_model.specs.Enqueueing.{IsBusy, Asks, IsJoined}
use Rattle.qolb_model.specs.AtTurn.{IsQueued, IsWithdrawn}
use Rattle.qolb_model.specs.Linking.{IsLinking, Links}
use Rattle.qolb_model.specs.Calls.{IsGrantedOrTold, Enqueues, Prepends, LinksUp, Polls, Withdraws}

module _ {allows : List ℕ → List ℕ → Type 0} {v w : View} {turn : Write} (c : Continues allows v w) where
  pub enqueues_busy : IsBusy v w → Enqueues allows v w turn enq.Busy
  enqueues_busy busy = record { continues = c; busy = λ _. busy; asks = λ ne. absurd (ne refl); joined = λ ne. absurd (ne refl); granted = λ e. absurd (cc e); queued = λ e. absurd (cc e); told = λ e. absurd (cc e) }

  pub enqueues_queued : Asks v w → IsJoined w → IsQueued w → Enqueues allows v w turn enq.Queued
  enqueues_queued asks joined queued = record { continues = c; busy = λ e. absurd (cc e); asks = λ _. asks; joined = λ _. joined; granted = λ e. absurd (cc e); queued = λ _. queued; told = λ e. absurd (cc e) }

  pub enqueues_came : {answer : Enq} → Asks v w → IsJoined w → IsGrantedOrTold enq.Granted enq.Closed answer w turn → Enqueues allows v w turn answer
  enqueues_came asks joined came = record { continues = c; busy = λ e. elim came [ inl a ↦ absurd (cc (a.0, e)) | inr b ↦ absurd (cc (b.0, e)) ]; asks = λ _. asks; joined = λ _. joined; granted = λ e. elim came [ inl a ↦ a.1 | inr b ↦ absurd (cc (b.0, e)) ]; queued = λ e. elim came [ inl a ↦ absurd (cc (a.0, e)) | inr b ↦ absurd (cc (b.0, e)) ]; told = λ e. elim came [ inl a ↦ absurd (cc (a.0, e)) | inr b ↦ b.1 ] }

  pub prepends_busy : IsBusy v w → Prepends allows v w turn prep.Busy
  prepends_busy busy = record { continues = c; busy = λ _. busy; asks = λ ne. absurd (ne refl); joined = λ e. elim e [ inl a ↦ absurd (cc a) | inr b ↦ absurd (cc b) ]; granted = λ e. absurd (cc e); linking = λ e. absurd (cc e); told = λ e. absurd (cc e) }

  pub prepends_linking : Asks v w → IsLinking w → Prepends allows v w turn prep.Linking
  prepends_linking asks linking = record { continues = c; busy = λ e. absurd (cc e); asks = λ _. asks; joined = λ e. elim e [ inl a ↦ absurd (cc a) | inr b ↦ absurd (cc b) ]; granted = λ e. absurd (cc e); linking = λ _. linking; told = λ e. absurd (cc e) }

  pub prepends_came : {answer : Prep} → Asks v w → IsJoined w → IsGrantedOrTold prep.Granted prep.Closed answer w turn → Prepends allows v w turn answer
  prepends_came asks joined came = record { continues = c; busy = λ e. elim came [ inl a ↦ absurd (cc (a.0, e)) | inr b ↦ absurd (cc (b.0, e)) ]; asks = λ _. asks; joined = λ _. joined; granted = λ e. elim came [ inl a ↦ a.1 | inr b ↦ absurd (cc (b.0, e)) ]; linking = λ e. elim came [ inl a ↦ absurd (cc (a.0, e)) | inr b ↦ absurd (cc (b.0, e)) ]; told = λ e. elim came [ inl a ↦ absurd (cc (a.0, e)) | inr b ↦ b.1 ] }

  pub links_came : {answer : Enq} → Links v w → IsGrantedOrTold enq.Granted enq.Closed answer w turn → LinksUp allows v w turn answer
  links_came links came = record { continues = c; never_busy = λ e. elim came [ inl a ↦ absurd (cc (a.0, e)) | inr b ↦ absurd (cc (b.0, e)) ]; links = links; granted = λ e. elim came [ inl a ↦ a.1 | inr b ↦ absurd (cc (b.0, e)) ]; queued = λ e. elim came [ inl a ↦ absurd (cc (a.0, e)) | inr b ↦ absurd (cc (b.0, e)) ]; told = λ e. elim came [ inl a ↦ absurd (cc (a.0, e)) | inr b ↦ b.1 ] }

  pub links_queued : Links v w → IsQueued w → LinksUp allows v w turn enq.Queued
  links_queued links queued = record { continues = c; never_busy = λ e. cc e; links = links; granted = λ e. absurd (cc e); queued = λ _. queued; told = λ e. absurd (cc e) }

  module _ (count : w.count ≡ v.count) where
    pub polls_waiting : IsQueued w → Polls allows v w turn poll.Waiting
    polls_waiting waits = record { continues = c; count = count; granted = λ e. absurd (cc e); waiting = λ _. waits; told = λ e. absurd (cc e) }

    pub polls_came : {answer : Poll} → IsGrantedOrTold poll.Granted poll.Closed answer w turn → Polls allows v w turn answer
    polls_came came = record { continues = c; count = count; granted = λ e. elim came [ inl a ↦ a.1 | inr b ↦ absurd (cc (b.0, e)) ]; waiting = λ e. elim came [ inl a ↦ absurd (cc (a.0, e)) | inr b ↦ absurd (cc (b.0, e)) ]; told = λ e. elim came [ inl a ↦ absurd (cc (a.0, e)) | inr b ↦ b.1 ] }

    pub withdraws_came : {answer : Out} → IsGrantedOrTold out.Granted out.Closed answer w turn → Withdraws allows v w turn answer
    withdraws_came came = record { continues = c; count = count; withdrawn = λ e. elim came [ inl a ↦ absurd (cc (a.0, e)) | inr b ↦ absurd (cc (b.0, e)) ]; granted = λ e. elim came [ inl a ↦ a.1 | inr b ↦ absurd (cc (b.0, e)) ]; told = λ e. elim came [ inl a ↦ absurd (cc (a.0, e)) | inr b ↦ b.1 ] }

    pub withdraws_withdrawn : IsWithdrawn w → Withdraws allows v w turn out.Withdrawn
    withdraws_withdrawn withdrawn = record { continues = c; count = count; withdrawn = λ _. withdrawn; granted = λ e. absurd (cc e); told = λ e. absurd (cc e) }
