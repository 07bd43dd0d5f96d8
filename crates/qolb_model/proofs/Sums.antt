-- Lemmas about sums over the turns of one node, and over all turns of a line.
use Rattle.std.proofs.Common.{◌≡◌, ◌≢◌, ℕ, zero, suc, ◌+◌, ◌-◌, ◌*◌, ◌<◌, ◌≤◌, ◌==◌, ◌⊎◌, inl, inr, Bool, true, false, cond, if◌then◌else◌, List, [], ◌∷◌, ◌++◌, length, take, drop, Some, None, slice_get, refl, ap, sym, ◌∙◌, subst, arith, zero-add}
use Rattle.std.specs.List.{sum_by, count_by}
use Rattle.std.proofs.lemmas.List.Sums.{sum_by-cons}
use Rattle.std.proofs.lemmas.Bool.{eq-eqb, ne_eqb, cases_eq, cases_lt}
use Rattle.std.proofs.lemmas.Option.{slice_get_within}
use mathlib.Core.List.{IsPrefix}
use Rattle.qolb_model.specs.declared.request.Request.{Request}
use Rattle.qolb_model.specs.declared.end.End.{End}
use Rattle.qolb_model.specs.declared.end.End.TheVariants.{Served, Gone, Told}
use Rattle.qolb_model.specs.declared.config.LineConfig.{LineConfig}
use Rattle.qolb_model.specs.declared.view.View.{View}
use Rattle.qolb_model.specs.Requests.{count_of}
use Rattle.qolb_model.specs.Ends.{written, bytes_after}
use Rattle.qolb_model.specs.EndKinds.{is_served, is_gone}
use Rattle.qolb_model.specs.OneHistory.{Knows, IsAmong}
use Rattle.qolb_model.specs.Finishing.{EachNodeOnce, IsThere, IsFinished}
use Rattle.qolb_model.specs.Sums.{sum_of_all, sum_of_turns, sum_of_own, KnowsOwnPlaces}
use Rattle.qolb_model.proofs.Lists.{never, same_some, slice_get-drop}
use Rattle.qolb_model.proofs.Prefixes.{prefix_get}
use Rattle.qolb_model.proofs.Requests.{count_of-append}

-- a list of ends, one after another
pub turns-append : (does : List ℕ → List ℕ → ℕ) (node : ℕ) (bytes : List ℕ) (order : List Request) (xs ys : List End)
    → sum_of_turns does node bytes order (xs ++ ys) ≡ sum_of_turns does node bytes order xs + sum_of_turns does node (bytes_after bytes xs) (drop (length xs) order) ys
turns-append does node bytes order [] ys = by order
  where
    by : (order : List Request) → sum_of_turns does node bytes order ys ≡ sum_of_turns does node bytes order [] + sum_of_turns does node bytes order ys
    by [] = refl
    by (r ∷ order) = sym (zero-add (sum_of_turns does node bytes (r ∷ order) ys))
turns-append does node bytes [] (x ∷ xs) ys = refl
turns-append does node bytes (r ∷ order) (Served write shut ∷ xs) ys =
    let e = turns-append does node (written bytes write) order xs ys in omega (arith, e)
turns-append does node bytes (r ∷ order) (Gone ∷ xs) ys = turns-append does node bytes order xs ys
turns-append does node bytes (r ∷ order) (Told ∷ xs) ys = turns-append does node bytes order xs ys

-- if no request has ended, there was no turn
turns-none : (does : List ℕ → List ℕ → ℕ) (node : ℕ) (bytes : List ℕ) (order : List Request) → sum_of_turns does node bytes order [] ≡ 0
turns-none does node bytes [] = refl
turns-none does node bytes (r ∷ order) = refl

-- an order, one part after another
pub turns-append_order : (does : List ℕ → List ℕ → ℕ) (node : ℕ) (bytes : List ℕ) (xs ys : List Request) (ends : List End)
    → sum_of_turns does node bytes (xs ++ ys) ends ≡ sum_of_turns does node bytes xs ends + sum_of_turns does node (bytes_after bytes (take (length xs) ends)) ys (drop (length xs) ends)
turns-append_order does node bytes [] ys ends = sym (zero-add (sum_of_turns does node bytes ys ends))
turns-append_order does node bytes (r ∷ xs) ys [] = sym (zero-add (sum_of_turns does node bytes ys []) ∙ turns-none does node bytes ys)
turns-append_order does node bytes (r ∷ xs) ys (Served write shut ∷ ends) =
    let e = turns-append_order does node (written bytes write) xs ys ends in omega (arith, e)
turns-append_order does node bytes (r ∷ xs) ys (Gone ∷ ends) = turns-append_order does node bytes xs ys ends
turns-append_order does node bytes (r ∷ xs) ys (Told ∷ ends) = turns-append_order does node bytes xs ys ends

-- none of the node's requests among these was served
pub turns-unserved : (does : List ℕ → List ℕ → ℕ) (node : ℕ) (bytes : List ℕ) (order : List Request) (ends : List End)
    → ((p : ℕ) (r : Request) (e : End) → slice_get order p ≡ Some r → slice_get ends p ≡ Some e → r.node ≡ node → is_served e ≡ false)
    → sum_of_turns does node bytes order ends ≡ 0
turns-unserved does node bytes [] ends h = refl
turns-unserved does node bytes (r ∷ order) [] h = refl
turns-unserved does node bytes (r ∷ order) (Served write shut ∷ ends) h =
    let rest = turns-unserved does node (written bytes write) order ends (λ p x e at_x at_e. h (suc p) x e at_x at_e) in
    let other : (r.node == node) ≡ false = ne_eqb r.node node (λ same. never refl (h 0 r (Served write shut) refl refl same)) in
    ap (λ b. (if b then does bytes (written bytes write) else 0) + sum_of_turns does node (written bytes write) order ends) other ∙ (zero-add (sum_of_turns does node (written bytes write) order ends) ∙ rest)
turns-unserved does node bytes (r ∷ order) (Gone ∷ ends) h = turns-unserved does node bytes order ends (λ p x e at_x at_e. h (suc p) x e at_x at_e)
turns-unserved does node bytes (r ∷ order) (Told ∷ ends) h = turns-unserved does node bytes order ends (λ p x e at_x at_e. h (suc p) x e at_x at_e)

-- elements of the second of two lists
pub slice_get-append_right : {X : Type 0} (xs ys : List X) (p : ℕ) → slice_get (xs ++ ys) (length xs + p) ≡ slice_get ys p
slice_get-append_right [] ys p = ap (slice_get ys) (zero-add p)
slice_get-append_right (x ∷ xs) ys p = let e : length (x ∷ xs) + p ≡ suc (length xs + p) = omega arith in ap (slice_get (x ∷ (xs ++ ys))) e ∙ slice_get-append_right xs ys p

not_served : (e : End) → (is_served e ≡ true → ⊥) → is_served e ≡ false
not_served (Served write shut) h = absurd (h refl)
not_served Gone h = refl
not_served Told h = refl

-- a longer order and more ends have the same turns of a node, if the shorter ones know each of its served requests
pub turns-same : (does : List ℕ → List ℕ → ℕ) (node : ℕ) (bytes : List ℕ) (order more : List Request) (ends later : List End)
    → IsPrefix order more → IsPrefix ends later
    → ((p : ℕ) (r : Request) (e : End) → slice_get more p ≡ Some r → slice_get later p ≡ Some e → r.node ≡ node → is_served e ≡ true → (p < length order) × (p < length ends))
    → sum_of_turns does node bytes more later ≡ sum_of_turns does node bytes order ends
turns-same does node bytes order more ends later (xs, is_more) (ys, is_later) h =
    ap (sum_of_turns does node bytes more) (sym is_later)
    ∙ (turns-append does node bytes more ends ys
    ∙ (ap (λ n. sum_of_turns does node bytes more ends + n) behind
    ∙ (add-zero_of (sum_of_turns does node bytes more ends)
    ∙ (ap (λ o. sum_of_turns does node bytes o ends) (sym is_more)
    ∙ (turns-append_order does node bytes order xs ends
    ∙ (ap (λ n. sum_of_turns does node bytes order ends + n) beyond
    ∙ add-zero_of (sum_of_turns does node bytes order ends)))))))
  where
    add-zero_of : (n : ℕ) → n + 0 ≡ n
    add-zero_of n = omega arith

    behind : sum_of_turns does node (bytes_after bytes ends) (drop (length ends) more) ys ≡ 0
    behind = turns-unserved does node (bytes_after bytes ends) (drop (length ends) more) ys (λ p r e at_r at_e same. not_served e (λ served.
        let known = h (length ends + p) r e (sym (slice_get-drop (length ends) more p) ∙ at_r) (ap (λ l. slice_get l (length ends + p)) (sym is_later) ∙ (slice_get-append_right ends ys p ∙ at_e)) same served in
        let no : length ends + p < length ends = known.1 in omega arith))

    beyond : sum_of_turns does node (bytes_after bytes (take (length order) ends)) xs (drop (length order) ends) ≡ 0
    beyond = turns-unserved does node (bytes_after bytes (take (length order) ends)) xs (drop (length order) ends) (λ p r e at_r at_e same. not_served e (λ served.
        let known = h (length order + p) r e (ap (λ l. slice_get l (length order + p)) (sym is_more) ∙ (slice_get-append_right order xs p ∙ at_r)) (prefix_get ends later (length order + p) e (ys, is_later) (sym (slice_get-drop (length order) ends p) ∙ at_e)) same served in
        let no : length order + p < length order = known.0 in omega arith))

-- the sum of what each of these adds, if it adds at one node only
sum-at : (views : List View) (node amount : ℕ) → sum_by (λ (v : View). if node == v.node then amount else 0) views ≡ amount * count_by (λ (v : View). node == v.node) views
sum-at [] node amount = omega arith
sum-at (v ∷ views) node amount =
    sum_by-cons (λ (w : View). if node == w.node then amount else 0) v views
    ∙ (by (node == v.node) (sum-at views node amount) ∙ ap (λ n. amount * n) (sym (sum_by-cons (λ (w : View). cond (node == w.node) 1 0) v views)))
  where
    by : (b : Bool) → sum_by (λ (w : View). if node == w.node then amount else 0) views ≡ amount * count_by (λ (w : View). node == w.node) views
        → (if b then amount else 0) + sum_by (λ (w : View). if node == w.node then amount else 0) views ≡ amount * (cond b 1 0 + count_by (λ (w : View). node == w.node) views)
    by true e = grind arith
    by false e = grind arith

pub sum-plus : {X : Type 0} (f g : X → ℕ) (xs : List X) → sum_by (λ x. f x + g x) xs ≡ sum_by f xs + sum_by g xs
sum-plus f g [] = refl
sum-plus f g (x ∷ xs) = let a = sum_by-cons (λ x. f x + g x) x xs in let b = sum_by-cons f x xs in let c = sum_by-cons g x xs in let d = sum-plus f g xs in omega (arith, a, b, c, d)

pub sum-zero : {X : Type 0} (f : X → ℕ) (xs : List X) → ((x : X) → f x ≡ 0) → sum_by f xs ≡ 0
sum-zero f [] h = refl
sum-zero f (x ∷ xs) h = sum_by-cons f x xs ∙ (ap (λ n. n + sum_by f xs) (h x) ∙ (zero-add (sum_by f xs) ∙ sum-zero f xs h))

-- the changes by all turns are the changes by the turns of each node, if each request's node occurs once
pub sums-split : (does : List ℕ → List ℕ → ℕ) (views : List View) (bytes : List ℕ) (order : List Request) (ends : List End) → length ends ≤ length order
    → ((p : ℕ) (r : Request) → slice_get order p ≡ Some r → count_by (λ (v : View). r.node == v.node) views ≡ 1)
    → sum_by (λ (v : View). sum_of_turns does v.node bytes order ends) views ≡ sum_of_all does bytes ends
sums-split does views bytes order [] le once = sum-zero (λ (v : View). sum_of_turns does v.node bytes order []) views (λ v. turns-none does v.node bytes order)
sums-split does views bytes [] (e ∷ ends) le once = absurd (omega (arith, le))
sums-split does views bytes (r ∷ order) (Served write shut ∷ ends) le once =
    let now = written bytes write in
    sum-plus (λ (v : View). if r.node == v.node then does bytes now else 0) (λ (v : View). sum_of_turns does v.node now order ends) views
    ∙ (ap (λ n. n + sum_by (λ (v : View). sum_of_turns does v.node now order ends) views) (sum-at views r.node (does bytes now) ∙ (ap (λ n. does bytes now * n) (once 0 r refl) ∙ times-one (does bytes now)))
    ∙ ap (λ n. does bytes now + n) (sums-split does views now order ends (omega (arith, le)) (λ p x at. once (suc p) x at)))
  where
    times-one : (n : ℕ) → n * 1 ≡ n
    times-one n = omega arith
sums-split does views bytes (r ∷ order) (Gone ∷ ends) le once = sums-split does views bytes order ends (omega (arith, le)) (λ p x at. once (suc p) x at)
sums-split does views bytes (r ∷ order) (Told ∷ ends) le once = sums-split does views bytes order ends (omega (arith, le)) (λ p x at. once (suc p) x at)

-- a node occurs once if it occurs and no two items belong to it
none_there : (views : List View) (node : ℕ) → ((i : ℕ) (v : View) → slice_get views i ≡ Some v → v.node ≢ node) → count_by (λ (v : View). node == v.node) views ≡ 0
none_there [] node h = refl
none_there (v ∷ views) node h =
    sum_by-cons (λ (w : View). cond (node == w.node) 1 0) v views
    ∙ (ap (λ b. cond b 1 0 + count_by (λ (w : View). node == w.node) views) (ne_eqb node v.node (λ e. h 0 v refl (sym e)))
    ∙ (zero-add (count_by (λ (w : View). node == w.node) views) ∙ none_there views node (λ i w at. h (suc i) w at)))

pub once_there : (views : List View) (node : ℕ) → EachNodeOnce views → IsThere views node → count_by (λ (v : View). node == v.node) views ≡ 1
once_there [] node once (w, (i, at), is) = absurd (let no : None ≡ Some w = at in cc no)
once_there (v ∷ views) node once there =
    sum_by-cons (λ (w : View). cond (node == w.node) 1 0) v views ∙ by (once_there views node later) there (cases_eq v.node node)
  where
    later : EachNodeOnce views
    later i j x y at_x at_y e = let same = once (suc i) (suc j) x y at_x at_y e in omega arith

    by : (IsThere views node → count_by (λ (w : View). node == w.node) views ≡ 1) → IsThere (v ∷ views) node → (v.node ≡ node) ⊎ (v.node ≡ node → ⊥) → cond (node == v.node) 1 0 + count_by (λ (w : View). node == w.node) views ≡ 1
    by rest there (inl e) =
        ap (λ b. cond b 1 0 + count_by (λ (w : View). node == w.node) views) (eq-eqb node v.node (sym e))
        ∙ ap (λ n. 1 + n) (none_there views node (λ i w at same. let no : 0 ≡ suc i = once 0 (suc i) v w refl at (e ∙ sym same) in absurd (omega arith)))
    by rest (w, (zero, at), is) (inr ne) = absurd (ne (ap (λ (x : View). x.node) (same_some at) ∙ is))
    by rest (w, (suc i, at), is) (inr ne) =
        ap (λ b. cond b 1 0 + count_by (λ (x : View). node == x.node) views) (ne_eqb node v.node (λ e. ne (sym e)))
        ∙ (zero-add (count_by (λ (x : View). node == x.node) views) ∙ rest (w, (i, at), is))

-- an order with no request of a node has none at any place
pub none_of_node : (n : ℕ) (xs : List Request) → count_of n xs ≡ 0 → (p : ℕ) (r : Request) → slice_get xs p ≡ Some r → r.node ≢ n
none_of_node n [] none p r at same = absurd (let no : None ≡ Some r = at in cc no)
none_of_node n (x ∷ xs) none p r at same = by (none_of_node n xs) p at (sym (sum_by-cons (λ (y : Request). cond (y.node == n) 1 0) x xs) ∙ none)
  where
    by : (count_of n xs ≡ 0 → (p : ℕ) (r : Request) → slice_get xs p ≡ Some r → r.node ≢ n) → (p : ℕ) → slice_get (x ∷ xs) p ≡ Some r → cond (x.node == n) 1 0 + count_of n xs ≡ 0 → ⊥
    by rest zero at sum = let one : (cond (x.node == n) 1 0) ≡ (suc 0) = ap (λ (b : Bool). cond {A = ℕ} b 1 0) (eq-eqb x.node n (ap (λ (y : Request). y.node) (same_some at) ∙ same)) in omega (arith, one, sum)
    by rest (suc p) at sum = rest (omega (arith, sum)) p r at same

-- a prefix that has all requests of a node has each of their places
pub own_place : (n : ℕ) (known order : List Request) → IsPrefix known order → count_of n known ≡ count_of n order → (p : ℕ) (r : Request) → slice_get order p ≡ Some r → r.node ≡ n → p < length known
own_place n known order (more, is) count p r at same = elim (cases_lt p (length known)) [
  | inl lt ↦ lt
  | inr ge ↦
      let none : count_of n more ≡ 0 = omega (arith, count, count_of-append n known more, ap (count_of n) is) in
      let q : ℕ = p - length known in
      let e : length known + q ≡ p = omega (arith, ge) in
      absurd (none_of_node n more none q r (sym (slice_get-append_right known more q) ∙ (ap (λ l. slice_get l (length known + q)) is ∙ (ap (slice_get order) e ∙ at))) same)
]

served_stays : (e : End) → is_served e ≡ true → is_gone e ≡ false
served_stays (Served write shut) h = refl
served_stays Gone h = absurd (let no : false ≡ true = h in cc no)
served_stays Told h = absurd (let no : false ≡ true = h in cc no)

-- a port knows all turns of its node in the whole history
pub turns-whole : (does : List ℕ → List ℕ → ℕ) (config : LineConfig) (order : List Request) (ends : List End) (clear : List Request) (v : View) → Knows config order ends clear v → KnowsOwnPlaces v
    → sum_of_turns does v.node v.config.opening.bytes v.order v.ends ≡ sum_of_turns does v.node config.opening.bytes order ends
turns-whole does config order ends clear v knows places =
    ap (λ (t : LineConfig). sum_of_turns does v.node t.opening.bytes v.order v.ends) knows.config_is
    ∙ sym (turns-same does v.node config.opening.bytes v.order order v.ends ends knows.order_begins knows.ends_begin (λ p r e at_r at_e same served. (
      own_place v.node v.order order knows.order_begins (places ∙ sym knows.own_count) p r at_r same,
      slice_get_within v.ends p e (knows.own_ends p r e at_r at_e same (served_stays e served)),
    )))

pub sum-each : {X : Type 0} (f g : X → ℕ) (xs : List X) → ((i : ℕ) (x : X) → slice_get xs i ≡ Some x → f x ≡ g x) → sum_by f xs ≡ sum_by g xs
sum-each f g [] h = refl
sum-each f g (x ∷ xs) h =
    let here : f x ≡ g x = h 0 x refl in
    let rest = sum-each f g xs (λ i y at. h (suc i) y at) in
    sum_by-cons f x xs ∙ (ap (λ n. n + sum_by f xs) here ∙ (ap (λ n. g x + n) rest ∙ sym (sum_by-cons g x xs)))

-- for a finished line, what all turns did is the sum of what each port's own turns did
module _ (good : List ℕ → Type 0) (allows : List ℕ → List ℕ → Type 0) where
  pub sums_of_ports : (does : List ℕ → List ℕ → ℕ) (label : ℕ) (config : LineConfig) (views : List View) (bytes : List ℕ) (finished : IsFinished good allows label config views bytes)
      → ((v : View) → IsAmong views v → KnowsOwnPlaces v) → sum_of_all does config.opening.bytes finished.history.ends ≡ sum_by (sum_of_own does) views
  sums_of_ports does label config views bytes f places =
      let h = f.history in
      let whole = sum-each (sum_of_own does) (λ (v : View). sum_of_turns does v.node config.opening.bytes h.order h.ends) views
      (λ i v at. turns-whole does h.config h.order h.ends h.clear v (h.known v (i, at)) (places v (i, at)) ∙ ap (λ (t : LineConfig). sum_of_turns does v.node t.opening.bytes h.order h.ends) f.config_is) in
      let (w, among, is) = f.there 1 (omega arith) f.may_open.nodes.some in
      let of_line = subst (λ (t : LineConfig). (p : ℕ) (r : Request) → slice_get h.order p ≡ Some r → (1 ≤ r.node) × (r.node ≤ t.nodes)) f.config_is (h.known w among).of_line in
      let once = λ (p : ℕ) (r : Request) (at : slice_get h.order p ≡ Some r). once_there views r.node f.once (f.there r.node (of_line p r at).0 (of_line p r at).1) in
      sym (whole ∙ sums-split does views config.opening.bytes h.order h.ends (omega (arith, f.all_ended)) once)
