-- Lemmas for opening a line: how the lists of handles and of boxed nodes change while they are filled one by one.
use Rattle.std.proofs.Common.{◌≡◌, All, ℕ, zero, suc, ◌<◌, List, [], ◌∷◌, ◌++◌, map, length, set, drop, get_or, Option, Some, None, Box, Global, slice_get, refl, sym, ap, ◌∙◌, subst, arith, append_assoc, length-append}
use Rattle.qolb_nodes.specs.declared.any_node.AnyNode.{AnyNode}
use Rattle.qolb_nodes.specs.declared.handle.Handle.{Handle}
use Rattle.qolb_nodes.specs.Nodes.{NodeOf}
use Rattle.qolb_nodes.specs.Opens.{held_by}

abbrev pub Boxes : Type 0
Boxes = List (Box AnyNode Global)

-- the nodes in these boxes
abbrev pub values : Boxes → List AnyNode
values boxes = map (λ (b : Box AnyNode Global). b.value) boxes

-- what handles of these boxes have
abbrev pub held_values : Boxes → List (Option AnyNode)
held_values boxes = map (λ (b : Box AnyNode Global). Some b.value) boxes

-- a node of a line, by its port
abbrev pub node_at : {Line Port : Type 0} → Line → Port → NodeOf Line Port
node_at line port = record { line = line; port = port }

pub empty_rest : {X : Type 0} (xs : List X) (n : ℕ) → n ≡ length xs → n ≡ 0 → xs ≡ []
empty_rest [] n is none = refl
empty_rest (x ∷ xs) n is none = absurd (omega arith)

-- a handle that gets what it had does not change
pub held_same : (hs : List Handle) (k : ℕ) (g h : Handle) → k < length hs → h.held ≡ (get_or hs k g).held → held_by (set hs k h) ≡ held_by hs
held_same [] k g h low same = refl
held_same (x ∷ hs) zero g h low same = ap (λ (o : Option AnyNode). o ∷ held_by hs) same
held_same (x ∷ hs) (suc k) g h low same = ap (λ (os : List (Option AnyNode)). x.held ∷ os) (held_same hs k g h (omega arith) same)

-- what the handle at a place has
pub held_there : (hs : List Handle) (k : ℕ) (g : Handle) → k < length hs → slice_get (held_by hs) k ≡ Some (get_or hs k g).held
held_there [] k g low = absurd (omega arith)
held_there (x ∷ hs) zero g low = refl
held_there (x ∷ hs) (suc k) g low = held_there hs k g (omega arith)

pub length_held : (hs : List Handle) → length (held_by hs) ≡ length hs
length_held [] = refl
length_held (h ∷ hs) = ap (λ (n : ℕ). suc n) (length_held hs)

some_is : {X : Type 0} (x y : X) → Some x ≡ Some y → x ≡ y
some_is x y e = cc e

head_is : {X : Type 0} (x y : X) (xs ys : List X) → x ∷ xs ≡ y ∷ ys → x ≡ y
head_is x y xs ys e = cc e

tail_is : {X : Type 0} (x y : X) (xs ys : List X) → x ∷ xs ≡ y ∷ ys → xs ≡ ys
tail_is x y xs ys e = cc e

none_there : {X C : Type 0} (y : X) (ys : List X) → [] ≡ y ∷ ys → C
none_there y ys e = cc e

-- behind the handles that were filled, each handle has what it had
there : (bs : Boxes) (os : List (Option AnyNode)) → length bs < length os → slice_get (held_values bs ++ drop (length bs) os) (length bs) ≡ slice_get os (length bs)
there [] os low = refl
there (b ∷ bs) [] low = absurd (omega arith)
there (b ∷ bs) (o ∷ os) low = there bs os (omega arith)

pub room_left : (bs rest all : Boxes) (b : Box AnyNode Global) (rest' : Boxes) → bs ++ rest ≡ all → rest ≡ b ∷ rest' → length bs < length all
room_left bs rest all b rest' whole first = omega (arith, length-append bs rest, ap (λ (xs : Boxes). length xs) whole, ap (λ (xs : Boxes). length xs) first)

-- the next handle is empty
pub was_empty : (hs old : List Handle) (bs : Boxes) (k : ℕ) (g : Handle) → k ≡ length bs → held_by hs ≡ held_values bs ++ drop (length bs) (held_by old)
    → length hs ≡ length old → k < length hs → slice_get (held_by old) k ≡ Some None → (get_or hs k g).held ≡ None
was_empty hs old bs k g is filled same =
    subst (λ (n : ℕ). n < length hs → slice_get (held_by old) n ≡ Some None → (get_or hs n g).held ≡ None) (sym is)
    (λ low empty. some_is _ _ (sym (held_there hs (length bs) g low) ∙ ap (λ (os : List (Option AnyNode)). slice_get os (length bs)) filled
    ∙ there bs (held_by old) (omega (arith, length_held old)) ∙ empty))

-- one more handle has the node of a box
held_more : (hs : List Handle) (os : List (Option AnyNode)) (bs : Boxes) (b : Box AnyNode Global) (h : Handle)
    → held_by hs ≡ held_values bs ++ drop (length bs) os → length bs < length os → h.held ≡ Some b.value
    → held_by (set hs (length bs) h) ≡ held_values (bs ++ b ∷ []) ++ drop (length (bs ++ b ∷ [])) os
held_more [] [] [] b h is low has = absurd (omega arith)
held_more [] (o ∷ os) [] b h is low has = none_there o os is
held_more (x ∷ hs) [] [] b h is low has = absurd (omega arith)
held_more (x ∷ hs) (o ∷ os) [] b h is low has =
    ap (λ (v : Option AnyNode). v ∷ held_by hs) has ∙ ap (λ (vs : List (Option AnyNode)). Some b.value ∷ vs) (tail_is x.held o (held_by hs) os is)
held_more [] os (c ∷ bs) b h is low has = none_there (Some c.value) (held_values bs ++ drop (length (c ∷ bs)) os) is
held_more (x ∷ hs) [] (c ∷ bs) b h is low has = absurd (omega arith)
held_more (x ∷ hs) (o ∷ os) (c ∷ bs) b h is low has =
    ap (λ (v : Option AnyNode). v ∷ held_by (set hs (length bs) h)) (head_is x.held (Some c.value) (held_by hs) (held_values bs ++ drop (length bs) os) is)
    ∙ ap (λ (vs : List (Option AnyNode)). Some c.value ∷ vs) (held_more hs os bs b h (tail_is x.held (Some c.value) (held_by hs) (held_values bs ++ drop (length bs) os) is) (omega arith) has)

pub held_pushed : (hs old : List Handle) (bs : Boxes) (b : Box AnyNode Global) (h : Handle) (k : ℕ) → k ≡ length bs
    → held_by hs ≡ held_values bs ++ drop (length bs) (held_by old) → length hs ≡ length old → k < length hs → h.held ≡ Some b.value
    → held_by (set hs k h) ≡ held_values (bs ++ b ∷ []) ++ drop (length (bs ++ b ∷ [])) (held_by old)
held_pushed hs old bs b h k is filled same low has =
    subst (λ (n : ℕ). held_by (set hs n h) ≡ held_values (bs ++ b ∷ []) ++ drop (length (bs ++ b ∷ [])) (held_by old)) (sym is)
    (held_more hs (held_by old) bs b h filled (omega (arith, length_held old)) has)

values_push : (bs : Boxes) (b : Box AnyNode Global) (rest : List AnyNode) → values (bs ++ b ∷ []) ++ rest ≡ values bs ++ b.value ∷ rest
values_push [] b rest = refl
values_push (c ∷ bs) b rest = ap (λ (xs : List AnyNode). c.value ∷ xs) (values_push bs b rest)

-- one more node is in a box
pub boxed_more : {N : Type 0} (as_any : N → AnyNode) (bs bs' : Boxes) (b : Box AnyNode Global) (n : N) (rest rest' : List N) (all : List AnyNode)
    → bs' ≡ bs ++ b ∷ [] → b.value ≡ as_any n → rest ≡ n ∷ rest' → values bs ++ map as_any rest ≡ all → values bs' ++ map as_any rest' ≡ all
boxed_more {N} as_any bs bs' b n rest rest' all pushed is first whole =
    ap (λ (cs : Boxes). values cs ++ map as_any rest') pushed ∙ values_push bs b (map as_any rest') ∙ ap (λ (v : AnyNode). values bs ++ v ∷ map as_any rest') is
    ∙ ap (λ (xs : List N). values bs ++ map as_any xs) (sym first) ∙ whole

pub all_belong : {Line Port : Type 0} (belongs : Line → Port → Type 0) (line owned : Line) (ports xs : List Port) → owned ≡ line → xs ≡ ports → All (belongs line) ports → All (belongs owned) xs
all_belong {Line} {Port} belongs line owned ports xs same is each =
    subst (λ (l : Line). All (belongs l) xs) (sym same) (subst (λ (ps : List Port). All (belongs line) ps) (sym is) each)

-- one more port has its node
pub made_more : {Line Port : Type 0} (line : Line) (ns ns' : List (NodeOf Line Port)) (n : NodeOf Line Port) (port : Port) (rest rest' : List Port) (all : List (NodeOf Line Port))
    → ns' ≡ ns ++ n ∷ [] → n ≡ node_at line port → rest ≡ port ∷ rest' → ns ++ map (node_at line) rest ≡ all → ns' ++ map (node_at line) rest' ≡ all
made_more {Line} {Port} line ns ns' n port rest rest' all pushed is first whole =
    ap (λ (ms : List (NodeOf Line Port)). ms ++ map (node_at line) rest') pushed ∙ append_assoc ns (n ∷ []) (map (node_at line) rest')
    ∙ ap (λ (m : NodeOf Line Port). ns ++ m ∷ map (node_at line) rest') is ∙ ap (λ (ps : List Port). ns ++ map (node_at line) ps) (sym first) ∙ whole
