-- A round of meetings, in which a port merges its view with those of other ports, one after another. The definitions in
-- this file were made for this project; none is taken from the literature.
use Rattle.std.specs.Prelude.{◌≡◌, ℕ, List, [], ◌∷◌, ◌++◌, length}
use Rattle.qolb_model.specs.Calls.{MergesViews}
use Rattle.qolb_model.specs.Whole.{ViewAndTurn}

module _ (allows : List ℕ → List ℕ → Type 0) where
  -- two ports merge their views, and what has been written stays
  pub record Meet (a b a_then b_then : ViewAndTurn) : Type 0 where
    pub tell : MergesViews allows a.view b.view a_then.view b_then.view
    pub turn_a : a_then.turn ≡ a.turn
    pub turn_b : b_then.turn ≡ b.turn

  -- the port met these ports in their order; the arguments are the port and the others, before and after
  pub data MeetsEach (port : ViewAndTurn) : List ViewAndTurn → ViewAndTurn → List ViewAndTurn → Type 0 where
    nobody : MeetsEach port [] port []
    another : {others others_then : List ViewAndTurn} {now : ViewAndTurn} (other later other_then : ViewAndTurn) → MeetsEach port others now others_then → Meet now other later other_then
        → MeetsEach port (others ++ other ∷ []) later (others_then ++ other_then ∷ [])

  -- the port at the place met each other port, in the order of their places; the arguments are all ports, before and
  -- after
  pub record MeetsOthers (place : ℕ) (old new : List ViewAndTurn) : Type 0 where
    pub before : List ViewAndTurn
    pub port : ViewAndTurn
    pub behind : List ViewAndTurn
    pub was : old ≡ before ++ port ∷ behind
    pub at : length before ≡ place
    pub before_then : List ViewAndTurn
    pub now : ViewAndTurn
    pub meets_before : MeetsEach port before now before_then
    pub port_then : ViewAndTurn
    pub behind_then : List ViewAndTurn
    pub meets_behind : MeetsEach now behind port_then behind_then
    pub is : new ≡ before_then ++ port_then ∷ behind_then
