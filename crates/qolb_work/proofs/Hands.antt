-- Lemmas that connect the states of a board's workers with the views of the workers' ports. The view of a port is what
-- the port knows about the requests on the line.
use Rattle.std.proofs.Common.{◌≡◌, ℕ, zero, suc, ◌+◌, ◌≤◌, List, [], ◌∷◌, length, map, option_map, Some, None, slice_get, refl, ap, sym, ◌∙◌, subst, arith}
use Rattle.std.proofs.lemmas.Option.{slice_get-map}
use Rattle.qolb_model.specs.declared.view.View.{View}
use Rattle.qolb_model.proofs.Lists.{same_some, element_at}
use Rattle.qolb_work.specs.declared.board.BoardHand.{BoardHand}

module _ {Port : Type 0} where
  pub hand_of : (hands : List (BoardHand Port)) (port : Port) (j : ℕ) → slice_get (map (λ hand. hand.port) hands) j ≡ Some port → (hand : BoardHand Port) × (slice_get hands j ≡ Some hand) × (port ≡ hand.port)
  hand_of [] port j at = absurd (let no : None ≡ Some port = at in cc no)
  hand_of (h ∷ hands) port zero at = (h, refl, sym (same_some at))
  hand_of (h ∷ hands) port (suc j) at = hand_of hands port j at

  port_of : (hands : List (BoardHand Port)) (hand : BoardHand Port) (j : ℕ) → slice_get hands j ≡ Some hand → slice_get (map (λ hand. hand.port) hands) j ≡ Some hand.port
  port_of [] hand j at = absurd (let no : None ≡ Some hand = at in cc no)
  port_of (h ∷ hands) hand zero at = ap (λ (x : BoardHand Port). Some x.port) (same_some at)
  port_of (h ∷ hands) hand (suc j) at = port_of hands hand j at

  module _ (view : Port → View) (hands : List (BoardHand Port)) (ports : List Port) (are : ports ≡ map (λ hand. hand.port) hands) where
    pub view_of : (k : ℕ) (hand : BoardHand Port) → slice_get hands k ≡ Some hand → slice_get (map view ports) k ≡ Some (view hand.port)
    view_of k hand at = ap (λ ps. slice_get (map view ps) k) are ∙ (slice_get-map view (map (λ hand. hand.port) hands) k ∙ ap (option_map view) (port_of hands hand k at))

    -- a fact that holds of the state of each worker
    module _ (Fact : ℕ → BoardHand Port → Type 0) (each : (k : ℕ) (hand : BoardHand Port) → slice_get hands k ≡ Some hand → Fact (k + 1) hand) where
      -- Each view is the view of the worker at the same place.
      pub view_at : (i : ℕ) (v : View) → slice_get (map view ports) i ≡ Some v → (hand : BoardHand Port) × Fact (i + 1) hand × (v ≡ view hand.port)
      view_at i v at =
          let (port, at_port, is) = place ports i v at in
          let (hand, at_hand, of) = hand_of hands port i (ap (λ ps. slice_get ps i) (sym are) ∙ at_port) in
          (hand, each i hand at_hand, is ∙ ap view of)
        where
          place : (ports : List Port) (i : ℕ) (v : View) → slice_get (map view ports) i ≡ Some v → (port : Port) × (slice_get ports i ≡ Some port) × (v ≡ view port)
          place [] i v at = absurd (let no : None ≡ Some v = at in cc no)
          place (p ∷ ports) zero v at = (p, refl, sym (same_some at))
          place (p ∷ ports) (suc i) v at = place ports i v at

      -- The list of views contains the view of each worker.
      pub hand_at : (worker : ℕ) → 1 ≤ worker → worker ≤ length hands → (i : ℕ) × (hand : BoardHand Port) × (slice_get (map view ports) i ≡ Some (view hand.port)) × Fact worker hand
      hand_at zero first last = absurd (omega (arith, first))
      hand_at (suc k) first last =
          let (hand, at) = element_at hands k (omega (arith, last)) in
          let name : k + 1 ≡ suc k = omega arith in
          (k, hand, view_of k hand at, subst (λ n. Fact n hand) name (each k hand at))
