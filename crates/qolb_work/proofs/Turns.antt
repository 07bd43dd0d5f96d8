-- Lemmas about the critical sections (turns) of a node at a board. The turns are computed from the requests on the line
-- and from how each request ended.
use Rattle.std.proofs.Common.{◌≡◌, ℕ, zero, suc, ◌+◌, ◌<◌, ◌≤◌, ◌==◌, inl, inr, true, false, if◌then◌else◌, List, [], ◌∷◌, ◌++◌, length, take, drop, replicate, Some, slice_get, refl, ap, sym, ◌∙◌, arith, append-nil, append_assoc}
use Rattle.std.proofs.lemmas.Bool.{ne_eqb, cases_lt}
use Rattle.std.proofs.lemmas.Option.{slice_get_within}
use mathlib.Core.List.{IsPrefix}
use Rattle.qolb_model.specs.declared.request.Request.{Request}
use Rattle.qolb_model.specs.declared.end.End.{End}
use Rattle.qolb_model.specs.declared.end.End.TheVariants.{Served, Gone, Told}
use Rattle.qolb_model.specs.declared.config.LineConfig.{LineConfig}
use Rattle.qolb_model.specs.declared.view.View.{View}
use Rattle.qolb_model.specs.Ends.{written, bytes_after}
use Rattle.qolb_model.specs.EndKinds.{is_served, is_gone}
use Rattle.qolb_model.specs.Views.{Extends}
use Rattle.qolb_model.specs.OneHistory.{Knows, OneHistory}
use Rattle.qolb_model.specs.Sound.{KnowsOwnHistory}
use Rattle.qolb_model.proofs.Lists.{never, same_some, element_at, slice_get-drop}
use Rattle.qolb_model.proofs.Prefixes.{prefix_get}
use Rattle.qolb_model.proofs.Agreeing.{among_first}
use Rattle.qolb_model.specs.Sums.{KnowsOwnPlaces}
use Rattle.line_accounts.specs.Desks.{IsAtRest}
use Rattle.qolb_model.proofs.Sums.{slice_get-append_right, own_place}
use Rattle.qolb_work.specs.BoardWork.{turn_between, node_turns, turns_of}

-- If no request has ended, the node has had no turn.
pub node_turns-none : (node : ℕ) (bytes : List ℕ) (order : List Request) → node_turns node bytes order [] ≡ []
node_turns-none node bytes [] = refl
node_turns-none node bytes (r ∷ order) = refl

-- the turns of a list of ends that is the concatenation of two lists
pub node_turns-append : (node : ℕ) (bytes : List ℕ) (order : List Request) (xs ys : List End)
    → node_turns node bytes order (xs ++ ys) ≡ node_turns node bytes order xs ++ node_turns node (bytes_after bytes xs) (drop (length xs) order) ys
node_turns-append node bytes order [] ys = by order
  where
    by : (order : List Request) → node_turns node bytes order ys ≡ node_turns node bytes order [] ++ node_turns node bytes order ys
    by [] = refl
    by (r ∷ order) = refl
node_turns-append node bytes [] (x ∷ xs) ys = refl
node_turns-append node bytes (r ∷ order) (Served write shut ∷ xs) ys =
    ap (λ ts. (if r.node == node then turn_between bytes (written bytes write) ∷ [] else []) ++ ts) (node_turns-append node (written bytes write) order xs ys)
    ∙ sym (append_assoc (if r.node == node then turn_between bytes (written bytes write) ∷ [] else []) (node_turns node (written bytes write) order xs) (node_turns node (bytes_after (written bytes write) xs) (drop (length xs) order) ys))
node_turns-append node bytes (r ∷ order) (Gone ∷ xs) ys = node_turns-append node bytes order xs ys
node_turns-append node bytes (r ∷ order) (Told ∷ xs) ys = node_turns-append node bytes order xs ys

-- the turns of an order of requests that is the concatenation of two lists
pub node_turns-append_order : (node : ℕ) (bytes : List ℕ) (xs ys : List Request) (ends : List End)
    → node_turns node bytes (xs ++ ys) ends ≡ node_turns node bytes xs ends ++ node_turns node (bytes_after bytes (take (length xs) ends)) ys (drop (length xs) ends)
node_turns-append_order node bytes [] ys ends = refl
node_turns-append_order node bytes (r ∷ xs) ys [] = sym (node_turns-none node bytes ys)
node_turns-append_order node bytes (r ∷ xs) ys (Served write shut ∷ ends) =
    ap (λ ts. (if r.node == node then turn_between bytes (written bytes write) ∷ [] else []) ++ ts) (node_turns-append_order node (written bytes write) xs ys ends)
    ∙ sym (append_assoc (if r.node == node then turn_between bytes (written bytes write) ∷ [] else []) (node_turns node (written bytes write) xs ends) (node_turns node (bytes_after (written bytes write) (take (length xs) ends)) ys (drop (length xs) ends)))
node_turns-append_order node bytes (r ∷ xs) ys (Gone ∷ ends) = node_turns-append_order node bytes xs ys ends
node_turns-append_order node bytes (r ∷ xs) ys (Told ∷ ends) = node_turns-append_order node bytes xs ys ends

-- If none of the node's requests among these was served, the node has had no turn.
pub node_turns-unserved : (node : ℕ) (bytes : List ℕ) (order : List Request) (ends : List End)
    → ((p : ℕ) (r : Request) (e : End) → slice_get order p ≡ Some r → slice_get ends p ≡ Some e → r.node ≡ node → is_served e ≡ false) → node_turns node bytes order ends ≡ []
node_turns-unserved node bytes [] ends h = refl
node_turns-unserved node bytes (r ∷ order) [] h = refl
node_turns-unserved node bytes (r ∷ order) (Served write shut ∷ ends) h =
    let rest = node_turns-unserved node (written bytes write) order ends (λ p x e at_x at_e. h (suc p) x e at_x at_e) in
    let other : (r.node == node) ≡ false = ne_eqb r.node node (λ same. never refl (h 0 r (Served write shut) refl refl same)) in
    ap (λ b. (if b then turn_between bytes (written bytes write) ∷ [] else []) ++ node_turns node (written bytes write) order ends) other ∙ rest
node_turns-unserved node bytes (r ∷ order) (Gone ∷ ends) h = node_turns-unserved node bytes order ends (λ p x e at_x at_e. h (suc p) x e at_x at_e)
node_turns-unserved node bytes (r ∷ order) (Told ∷ ends) h = node_turns-unserved node bytes order ends (λ p x e at_x at_e. h (suc p) x e at_x at_e)

-- Withdrawn requests that were skipped give no turn.
pub node_turns-gone : (node : ℕ) (bytes : List ℕ) (order : List Request) (n : ℕ) → node_turns node bytes order (replicate n Gone) ≡ []
node_turns-gone node bytes [] n = refl
node_turns-gone node bytes (r ∷ order) zero = refl
node_turns-gone node bytes (r ∷ order) (suc n) = node_turns-gone node bytes order n

not_served : (e : End) → (is_served e ≡ true → ⊥) → is_served e ≡ false
not_served (Served write shut) h = absurd (h refl)
not_served Gone h = refl
not_served Told h = refl

-- A node has the same turns in a longer order with more ends, if the shorter lists already contain each of its served
-- requests.
pub node_turns-same : (node : ℕ) (bytes : List ℕ) (order more : List Request) (ends later : List End) → IsPrefix order more → IsPrefix ends later
    → ((p : ℕ) (r : Request) (e : End) → slice_get more p ≡ Some r → slice_get later p ≡ Some e → r.node ≡ node → is_served e ≡ true → (p < length order) × (p < length ends))
    → node_turns node bytes more later ≡ node_turns node bytes order ends
node_turns-same node bytes order more ends later (xs, is_more) (ys, is_later) h =
    ap (node_turns node bytes more) (sym is_later)
    ∙ (node_turns-append node bytes more ends ys
    ∙ (ap (λ ts. node_turns node bytes more ends ++ ts) behind
    ∙ (append-nil (node_turns node bytes more ends)
    ∙ (ap (λ o. node_turns node bytes o ends) (sym is_more)
    ∙ (node_turns-append_order node bytes order xs ends
    ∙ (ap (λ ts. node_turns node bytes order ends ++ ts) beyond
    ∙ append-nil (node_turns node bytes order ends)))))))
  where
    behind : node_turns node (bytes_after bytes ends) (drop (length ends) more) ys ≡ []
    behind = node_turns-unserved node (bytes_after bytes ends) (drop (length ends) more) ys (λ p r e at_r at_e same. not_served e (λ served.
        let known = h (length ends + p) r e (sym (slice_get-drop (length ends) more p) ∙ at_r) (ap (λ l. slice_get l (length ends + p)) (sym is_later) ∙ (slice_get-append_right ends ys p ∙ at_e)) same served in
        let no : length ends + p < length ends = known.1 in omega arith))

    beyond : node_turns node (bytes_after bytes (take (length order) ends)) xs (drop (length order) ends) ≡ []
    beyond = node_turns-unserved node (bytes_after bytes (take (length order) ends)) xs (drop (length order) ends) (λ p r e at_r at_e same. not_served e (λ served.
        let known = h (length order + p) r e (ap (λ l. slice_get l (length order + p)) (sym is_more) ∙ (slice_get-append_right order xs p ∙ at_r)) (prefix_get ends later (length order + p) e (ys, is_later) (sym (slice_get-drop (length order) ends p) ∙ at_e)) same served in
        let no : length order + p < length order = known.0 in omega arith))

served_stays : (e : End) → is_served e ≡ true → is_gone e ≡ false
served_stays (Served write shut) h = refl
served_stays Gone h = absurd (let no : false ≡ true = h in cc no)
served_stays Told h = absurd (let no : false ≡ true = h in cc no)

-- A port knows all turns of its node in the whole history.
pub turns_whole : (config : LineConfig) (order : List Request) (ends : List End) (clear : List Request) (v : View) → Knows config order ends clear v → KnowsOwnPlaces v
    → turns_of v ≡ node_turns v.node config.opening.bytes order ends
turns_whole config order ends clear v knows places =
    ap (λ (t : LineConfig). node_turns v.node t.opening.bytes v.order v.ends) knows.config_is
    ∙ sym (node_turns-same v.node config.opening.bytes v.order order v.ends ends knows.order_begins knows.ends_begin (λ p r e at_r at_e same served. (
      own_place v.node v.order order knows.order_begins (places ∙ sym knows.own_count) p r at_r same,
      slice_get_within v.ends p e (knows.own_ends p r e at_r at_e same (served_stays e served)),
    )))

-- The node has no other turns than those that the old view knew.
pub turns_kept : (old new : View) → Extends old new → OneHistory (new ∷ []) → IsAtRest old → KnowsOwnHistory old
    → ((p : ℕ) (r : Request) (e : End) → length old.order ≤ p → slice_get new.order p ≡ Some r → slice_get new.ends p ≡ Some e → r.node ≡ new.node → is_served e ≡ false) → turns_of new ≡ turns_of old
turns_kept old new more h rest past beyond =
    ap (λ n. node_turns n new.config.opening.bytes new.order new.ends) more.node
    ∙ (ap (λ (t : LineConfig). node_turns old.node t.opening.bytes new.order new.ends) more.config
    ∙ node_turns-same old.node old.config.opening.bytes old.order new.order old.ends new.ends more.order more.ends known)
  where
    knows : Knows h.config h.order h.ends h.clear new
    knows = h.known new (among_first new [])

    known : (p : ℕ) (r : Request) (e : End) → slice_get new.order p ≡ Some r → slice_get new.ends p ≡ Some e → r.node ≡ old.node → is_served e ≡ true → (p < length old.order) × (p < length old.ends)
    known p r e at_r at_e same served = elim (cases_lt p (length old.order)) [
      | inl lt ↦
          let (x, at_x) = element_at old.order p lt in
          let is : x ≡ r = same_some (sym (prefix_get old.order new.order p x more.order at_x) ∙ at_r) in
          let own_x : x.node ≡ old.node = ap (λ (y : Request). y.node) is ∙ same in
          elim (past p x at_x own_x) [
            | inl lt_ends ↦ (lt, lt_ends)
            | inr (inl marked) ↦
                let gone = knows.own_marks p x e (prefix_get new.order h.order p x knows.order_begins (prefix_get old.order new.order p x more.order at_x)) (prefix_get new.ends h.ends p e knows.ends_begin at_e) (own_x ∙ sym more.node) in
                absurd (never (sym gone ∙ more.marked x marked) (served_stays e served))
            | inr (inr last) ↦ absurd (never rest.quiet last.1)
          ]
      | inr ge ↦ absurd (never served (beyond p r e ge at_r at_e (same ∙ sym more.node)))
    ]
