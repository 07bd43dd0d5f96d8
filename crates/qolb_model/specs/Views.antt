-- The view of a port, which is what the port knows about its line, and how this knowledge grows. The definitions in
-- this file were made for this project; none is taken from the literature.
use Rattle.std.specs.Prelude.{◌≡◌, ℕ, List}
use mathlib.Core.List.{IsPrefix}
use Rattle.qolb_model.specs.declared.request.Request.{Request}
use Rattle.qolb_model.specs.declared.view.View.{View}
use Rattle.qolb_model.specs.Requests.{Has}
use Rattle.qolb_model.specs.Ends.{bytes_after}

-- the last request of the port's node
abbrev pub own : View → Request
own v = record { node = v.node; number = v.count }

-- the bytes after the ends that the port knows
abbrev pub bytes_of : View → List ℕ
bytes_of v = bytes_after v.config.opening.bytes v.ends

-- each request of the first list is in the second
abbrev pub IsSubset : List Request → List Request → Type 0
IsSubset xs ys = (r : Request) → Has xs r → Has ys r

-- the new view is of the same port as the old one, and knows all that the old view knew
pub record Extends (old new : View) : Type 0 where
  pub label : new.label ≡ old.label
  pub config : new.config ≡ old.config
  pub node : new.node ≡ old.node
  pub order : IsPrefix old.order new.order
  pub ends : IsPrefix old.ends new.ends
  pub clear : IsPrefix old.clear new.clear
  pub joined : IsSubset old.joined new.joined
  pub marked : IsSubset old.marked new.marked
  pub freed : IsSubset old.freed new.freed
