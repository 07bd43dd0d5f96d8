-- Defines when the views of several ports belong to one history: a single history must make all of these views true.
-- The definitions in this file were made for this project; none is taken from the literature.
use Rattle.std.specs.Prelude.{◌≡◌, ℕ, ◌≤◌, false, List, [], length, slice_get, Some}
use mathlib.Core.List.{IsPrefix}
use Rattle.qolb_model.specs.declared.answer.PortState.TheVariants.{Holding}
use Rattle.qolb_model.specs.declared.request.Request.{Request}
use Rattle.qolb_model.specs.declared.end.End.{End}
use Rattle.qolb_model.specs.declared.config.LineConfig.{LineConfig}
use Rattle.qolb_model.specs.declared.view.View.{View}
use Rattle.qolb_model.specs.Requests.{Has, has, count_of}
use Rattle.qolb_model.specs.EndKinds.{is_gone}
use Rattle.qolb_model.specs.Histories.{IsLegal, Clears, turn_of}
use Rattle.qolb_model.specs.Views.{own}

-- the view is one of these views
abbrev pub IsAmong : List View → View → Type 0
IsAmong views v = (i : ℕ) × (slice_get views i ≡ Some v)

-- What a view knows of a history. It knows the configuration of the line, that all requests are of its nodes, and a
-- prefix of each list. Of its own node it knows the number of requests, each request that was served or told that the
-- line is closed, and which of the ended requests were withdrawn; only the last of these requests can be open. A
-- holder's request is at its turn.
pub record Knows (config : LineConfig) (order : List Request) (ends : List End) (clear : List Request) (v : View) : Type 0 where
  pub config_is : v.config ≡ config
  pub of_line : (p : ℕ) (r : Request) → slice_get order p ≡ Some r → (1 ≤ r.node) × (r.node ≤ config.nodes)
  pub order_begins : IsPrefix v.order order
  pub ends_begin : IsPrefix v.ends ends
  pub clear_begins : IsPrefix v.clear clear
  pub own_count : count_of v.node order ≡ v.count
  pub own_ends : (p : ℕ) (r : Request) (e : End) → slice_get order p ≡ Some r → slice_get ends p ≡ Some e → r.node ≡ v.node → is_gone e ≡ false → slice_get v.ends p ≡ Some e
  pub own_marks : (p : ℕ) (r : Request) (e : End) → slice_get order p ≡ Some r → slice_get ends p ≡ Some e → r.node ≡ v.node → has v.marked r ≡ is_gone e
  pub own_open : (p : ℕ) (r : Request) → length ends ≤ p → slice_get order p ≡ Some r → r.node ≡ v.node → r ≡ own v
  pub holder : v.state ≡ Holding → turn_of order ends ≡ Some (own v)

-- if one view knows that a request of the other view's node is joined or withdrawn, the other view knows so too
pub record KnowsOwn (v w : View) : Type 0 where
  pub joined : (r : Request) → r.node ≡ w.node → Has v.joined r → Has w.joined r
  pub marked : (r : Request) → r.node ≡ w.node → Has v.marked r → Has w.marked r

-- the views are of one history: each of them knows some order, ends and clear list of one line
pub record OneHistory (views : List View) : Type 0 where
  pub config : LineConfig
  pub order : List Request
  pub ends : List End
  pub clear : List Request
  pub legal : IsLegal config.lease order ends
  pub cleared : Clears order (length ends) [] clear
  pub known : (v : View) → IsAmong views v → Knows config order ends clear v
  pub agreed : (v w : View) → IsAmong views v → IsAmong views w → KnowsOwn v w
