-- What a port knows about the line once the turn of its request has come.
use Rattle.std.specs.Prelude.{◌≡◌, ℕ, length, Option, Some}
use Rattle.qolb_model.specs.declared.view.View.{View}
use Rattle.qolb_model.specs.Histories.{turn_of}
use Rattle.qolb_model.specs.Requests.{Has}
use Rattle.qolb_model.specs.Views.{own}

-- A port with the view u sees the turn of a port with the view v. Both are of one line, u has as many ends as v, and in
-- u the request at its turn is the last one of v, which is joined. A port at its turn sees its own turn.
pub record SeesTurn (u v : View) : Type 0 where
  pub config : u.config ≡ v.config
  pub ended : length u.ends ≡ length v.ends
  pub turn : turn_of u.order u.ends ≡ Some (own v)
  pub joined : Has u.joined (own v)

-- the note of a port, if its line notes words, names this word
abbrev pub Names : ℕ → Option ℕ → Type 0
Names word noted = (w : ℕ) → noted ≡ Some w → w ≡ word
