-- Lemmas about the SVG text of a step script's picture, which is written one shape after another.
use Rattle.std.proofs.Common.{◌≡◌, ℕ, ◌+◌, List, [], ◌∷◌, ◌++◌, map, flat_map, refl, sym, ap, ◌∙◌, append_assoc, append-nil, zero-add}
use Rattle.std.specs.List.{range_with_len}
use Rattle.std.proofs.lemmas.Grind.{flat_map-append}
use Rattle.std.proofs.lemmas.List.FromFn.{map-range_with_len_more}
use Rattle.qolb_draw.specs.StepShapes.{StepShape}
use Rattle.qolb_draw.specs.StepSvg.{step_shape_text, step_texts}

pub step_texts-append : (xs ys : List StepShape) → step_texts (xs ++ ys) ≡ step_texts xs ++ step_texts ys
step_texts-append xs ys = flat_map-append step_shape_text xs ys

pub step_texts-map : (f : ℕ → StepShape) (xs : List ℕ) → step_texts (map f xs) ≡ flat_map (λ x. step_shape_text (f x)) xs
step_texts-map f [] = refl
step_texts-map f (x ∷ xs) = ap (λ t. step_shape_text (f x) ++ t) (step_texts-map f xs)

pub step_texts-flat_map : (f : ℕ → List StepShape) (xs : List ℕ) → step_texts (flat_map f xs) ≡ flat_map (λ x. step_texts (f x)) xs
step_texts-flat_map f [] = refl
step_texts-flat_map f (x ∷ xs) = step_texts-append (f x) (flat_map f xs) ∙ ap (λ t. step_texts (f x) ++ t) (step_texts-flat_map f xs)

-- a list made by a function, with one more element
pub listed : {X : Type 0} (f : ℕ → X) (before : List X) (k : ℕ) (now after : List X) (x : X) → now ≡ before ++ map f (range_with_len 0 k) → x ≡ f k → after ≡ now ++ x ∷ [] → after ≡ before ++ map f (range_with_len 0 (k + 1))
listed f before k now after x was is pushed =
    pushed ∙ ap (λ xs. xs ++ x ∷ []) was ∙ ap (λ y. (before ++ map f (range_with_len 0 k)) ++ y ∷ []) is ∙ append_assoc before (map f (range_with_len 0 k)) (f k ∷ [])
    ∙ ap (λ xs. before ++ xs) (sym (map-range_with_len_more f 0 k k (zero-add k)))

-- the shapes of an event, one after another
seven : (p n a l h w t : List ℕ) → (((((p ++ n) ++ a) ++ l) ++ h) ++ w) ++ t ≡ p ++ ((((n ++ (a ++ (l ++ []))) ++ h) ++ w) ++ (t ++ []))
seven p n a l h w t = simp (append_assoc, append-nil)

pub event_whole : (before : List ℕ) (n a l : StepShape) (h w : List StepShape) (t : StepShape) (x1 x2 x3 x4 x5 after : List ℕ) → x1 ≡ before ++ step_shape_text n → x2 ≡ x1 ++ step_shape_text a → x3 ≡ x2 ++ step_shape_text l
    → x4 ≡ x3 ++ step_texts h → x5 ≡ x4 ++ step_texts w → after ≡ x5 ++ step_shape_text t → after ≡ before ++ step_texts (n ∷ a ∷ l ∷ [] ++ h ++ w ++ t ∷ [])
event_whole before n a l h w t x1 x2 x3 x4 x5 after e1 e2 e3 e4 e5 e6 =
    e6 ∙ ap (λ x. x ++ step_shape_text t) (e5 ∙ ap (λ x. x ++ step_texts w) (e4 ∙ ap (λ x. x ++ step_texts h) (e3 ∙ ap (λ x. x ++ step_shape_text l) (e2 ∙ ap (λ x. x ++ step_shape_text a) e1))))
    ∙ seven before (step_shape_text n) (step_shape_text a) (step_shape_text l) (step_texts h) (step_texts w) (step_shape_text t)
    ∙ ap (λ x. before ++ x) (sym (step_texts-append (n ∷ a ∷ l ∷ [] ++ h ++ w) (t ∷ [])
    ∙ ap (λ x. x ++ step_texts (t ∷ [])) (step_texts-append (n ∷ a ∷ l ∷ [] ++ h) w ∙ ap (λ x. x ++ step_texts w) (step_texts-append (n ∷ a ∷ l ∷ []) h))))
