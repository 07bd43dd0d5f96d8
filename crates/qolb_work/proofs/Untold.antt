-- Proof that no worker of a board is told that the board's line is closed, because no worker has closed this line.
use Rattle.std.proofs.Common.{◌≡◌, ℕ, ◌+◌, inl, inr, List, length, map, All, None, Some, slice_get, get_or, ap, sym, ◌∙◌, subst, arith}
use Rattle.std.proofs.lemmas.Option.{slice_get-get_or}
use Rattle.qolb_model.specs.declared.config.LineConfig.{LineConfig}
use Rattle.qolb_model.specs.declared.view.View.{View}
use Rattle.qolb_model.specs.PortStates.{may_ask}
use Rattle.qolb_model.specs.OneHistory.{IsAmong}
use Rattle.qolb_model.specs.Finishing.{IsFinished, MayFinish}
use Rattle.qolb_model.specs.Sums.{KnowsOwnPlaces, HasNotShut}
use Rattle.qolb_model.proofs.Unshut.{untold}
use Rattle.line_accounts.specs.Desks.{IsAtRest}
use Rattle.line_board.specs.Board.{IsBoard}
use Rattle.line_board.specs.Law.{Changes}
use Rattle.qolb_script.specs.WorkScript.{WorkScript}
use Rattle.qolb_work.specs.declared.board.BoardHand.{BoardHand}
use Rattle.qolb_work.specs.Workers.{AreDone, HasEnded}
use Rattle.qolb_work.specs.BoardWork.{HasWorked, WasTold}
use Rattle.qolb_work.proofs.Gathering.{done_if_untold}
use Rattle.qolb_work.proofs.Hands.{hand_of, view_of, view_at, hand_at}

module _ {Line Port : Type 0} (belongs : Line → Port → Type 0) (view : Port → View) (line : Line) where
  -- a worker that has ended, whether or not it was told that the line is closed
  record IsHere (worker : ℕ) (hand : BoardHand Port) : Type 0 where
    of_line : belongs line hand.port
    of_worker : (view hand.port).node ≡ worker
    at_rest : IsAtRest (view hand.port)
    unshut : HasNotShut (view hand.port)

  module _ (work : WorkScript) (hands : List (BoardHand Port)) (ports : List Port) (ended : AreDone (HasEnded (HasWorked belongs view) (WasTold belongs view)) line work.jobs hands) (are : ports ≡ map (λ hand. hand.port) hands) where
    here : (k : ℕ) (hand : BoardHand Port) → slice_get hands k ≡ Some hand → IsHere (k + 1) hand
    here k hand at = elim (ended k hand at) [
      | inl done ↦ record { of_line = done.of_line; of_worker = done.of_worker; at_rest = done.at_rest; unshut = done.unshut }
      | inr told ↦ record { of_line = told.of_line; of_worker = told.of_worker; at_rest = told.at_rest; unshut = told.unshut }
    ]

    pub ports_belong : All (belongs line) ports
    ports_belong = λ i d below.
        let (hand, at_hand, of) = hand_of hands (get_or ports i d) i (ap (λ ps. slice_get ps i) (sym are) ∙ slice_get-get_or ports i d below) in
        subst (belongs line) (sym of) (here i hand at_hand).of_line

    -- Only a lack of memory can prevent the line from being finished.
    pub may_finish : (label nodes : ℕ) → ((port : Port) → belongs line port → (view port).label ≡ label) → length hands ≡ nodes → MayFinish label nodes (map view ports)
    may_finish label nodes labels many = (
      λ v (i, at). let (hand, is_here, is) = view_at view hands ports are IsHere here i v at in ap (λ (w : View). w.label) is ∙ labels hand.port is_here.of_line,
      λ node first last. let (i, hand, at, is_here) = hand_at view hands ports are IsHere here node first (omega (arith, last, many)) in (view hand.port, (i, at), is_here.of_worker),
      λ node first last v (i, at) same. let (hand, is_here, is) = view_at view hands ports are IsHere here i v at in ap (λ (w : View). may_ask w.state) is ∙ is_here.at_rest.quiet,
    )

    -- If the line is finished, all workers have done their jobs.
    pub done_at_last : (label : ℕ) (config : LineConfig) (bytes : List ℕ) → IsFinished IsBoard Changes label config (map view ports) bytes → config.lease ≡ None → AreDone (HasWorked belongs view) line work.jobs hands
    done_at_last label config bytes f none =
        let places : (v : View) → IsAmong (map view ports) v → KnowsOwnPlaces v =
        λ v (i, at). let (hand, is_here, is) = view_at view hands ports are IsHere here i v at in subst (λ (w : View). KnowsOwnPlaces w) (sym is) is_here.at_rest.places in
        let unshut : (v : View) → IsAmong (map view ports) v → HasNotShut v =
        λ v (i, at). let (hand, is_here, is) = view_at view hands ports are IsHere here i v at in subst (λ (w : View). HasNotShut w) (sym is) is_here.unshut in
        done_if_untold (HasWorked belongs view) (WasTold belongs view) line work.jobs hands
        (λ k hand at told. untold IsBoard Changes label config (map view ports) bytes f places unshut none (view hand.port) (k, view_of view hands ports are k hand at) told.told)
        ended
