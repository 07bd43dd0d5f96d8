-- How two ports of a line meet, which means that they merge their views. The definitions in this file were made for
-- this project; none is taken from the literature.
use Rattle.std.specs.Prelude.{◌≡◌, ◌||◌, ◌++◌, if◌then◌else◌, nat_lt, List, length}
use Rattle.qolb_model.specs.declared.request.Request.{Request}
use Rattle.qolb_model.specs.declared.view.View.{View}
use Rattle.qolb_model.specs.Requests.{has}

-- the longer of two lists
abbrev pub longer : {X : Type 0} → List X → List X → List X
longer xs ys = if nat_lt (length xs) (length ys) then ys else xs

-- the third set is the union of the first and the second
abbrev pub IsUnion : List Request → List Request → List Request → Type 0
IsUnion xs ys zs = (r : Request) → has zs r ≡ (has xs r || has ys r)

-- what a port knows once it has met another port: the longer of each two lists and the union of each two sets; its own
-- state does not change
pub record Meets (old other new : View) : Type 0 where
  pub order : new.order ≡ longer old.order other.order
  pub ends : new.ends ≡ longer old.ends other.ends
  pub clear : new.clear ≡ longer old.clear other.clear
  pub joined : IsUnion old.joined other.joined new.joined
  pub marked : IsUnion old.marked other.marked new.marked
  pub freed : IsUnion old.freed other.freed new.freed
  pub state : new.state ≡ old.state
  pub count : new.count ≡ old.count

-- the view v, after it has learned what u knows
abbrev pub merged_view : View → View → View
merged_view v u = record v {
  order = longer v.order u.order;
  ends = longer v.ends u.ends;
  clear = longer v.clear u.clear;
  joined = v.joined ++ u.joined;
  marked = v.marked ++ u.marked;
  freed = v.freed ++ u.freed;
}
