-- What holds after one node has handed the line to another: which bytes the next holder sees. The definitions in this
-- file were made for this project; none is taken from the literature.
use Rattle.std.specs.Prelude.{◌≡◌, ℕ, length, List}
use Rattle.qolb_model.specs.declared.view.View.{View}
use Rattle.qolb_model.specs.Views.{Extends, bytes_of}

-- a handoff: a node took the line, released it, and merged its view with the next holder's. `old` and `new` are the
-- node's views before and afterwards. The next holder sees the bytes after all ends that both now know, and the
-- released bytes if no other request ended since.
pub record HandsOver (old new : View) (released seen : List ℕ) : Type 0 where
  pub at_release : View
  pub later : Extends old at_release
  pub since : Extends at_release new
  pub releases : released ≡ bytes_of at_release
  pub sees : seen ≡ bytes_of new
  pub same : length at_release.ends ≡ length new.ends → seen ≡ released
