-- Lemmas about the shapes of a timeline, such as bars and arrows, and about how they are written as SVG.
use Rattle.std.proofs.Common.{◌≡◌, ℕ, suc, ◌+◌, ◌-◌, ◌*◌, ◌<◌, ◌≤◌, cond, Bool, true, false, List, [], ◌∷◌, ◌++◌, map, not, refl, sym, ap, ◌∙◌, subst, arith, append_assoc, append-nil, ne_eqb, ◌==◌, Option, Some}
use Rattle.std.specs.List.{flat_map, range_with_len}
use Rattle.std.proofs.lemmas.Grind.{flat_map-append}
use Rattle.line_lanes.specs.declared.line.Line64.{Line64}
use Rattle.line_lanes.specs.declared.line.Mask.{Mask}
use Rattle.qolb_script.specs.declared.command.Command.{Command}
use Rattle.qolb_script.specs.declared.command.Command.TheVariants.{Write}
use Rattle.qolb_script.specs.declared.reply_text.Said.{Said}
use Rattle.qolb_script.specs.declared.reply_text.Said.TheVariants as said
use Rattle.qolb_draw.specs.declared.bar.Stand.{Stand}
use Rattle.qolb_draw.specs.declared.bar.Stand.TheVariants as stand
use Rattle.qolb_draw.specs.declared.symbol.Symbol.{Symbol}
use Rattle.qolb_draw.specs.Grids.{mark_out_of, stands_out_of}
use Rattle.qolb_draw.specs.Svg.{arrow_text, bytes_text, shape_text, texts}
use Rattle.qolb_draw.specs.Shapes.{Arrow, Bytes, Shape, is_same, places_in, stand_of}
use Rattle.qolb_draw.specs.Timelines.{arrow_of, bar_of, bars_from, bytes_of, row_of}

-- the texts of shapes one after another
pub texts-append : (xs ys : List Shape) → texts (xs ++ ys) ≡ texts xs ++ texts ys
texts-append xs ys = flat_map-append shape_text xs ys

pub texts-one : (x : Shape) → texts (x ∷ []) ≡ shape_text x
texts-one x = append-nil (shape_text x)

pub texts-map : (f : ℕ → Shape) (xs : List ℕ) → texts (map f xs) ≡ flat_map (λ x. shape_text (f x)) xs
texts-map f [] = refl
texts-map f (x ∷ xs) = ap (λ t. shape_text (f x) ++ t) (texts-map f xs)

pub texts-flat_map : (f : ℕ → List Shape) (xs : List ℕ) → texts (flat_map f xs) ≡ flat_map (λ x. texts (f x)) xs
texts-flat_map f [] = refl
texts-flat_map f (x ∷ xs) = texts-append (f x) (flat_map f xs) ∙ ap (λ t. texts (f x) ++ t) (texts-flat_map f xs)

-- the states of a node from a column on, and from the next
pub stands_next : (nodes : ℕ) (marks : List Symbol) (n column end : ℕ) → column < end
    → stands_out_of nodes marks n column (end - column) ≡ stand_of (mark_out_of nodes marks n column) ∷ stands_out_of nodes marks n (column + 1) (end - (column + 1))
stands_next nodes marks n column end lt =
    let more : end - column ≡ suc (end - (column + 1)) = omega arith in
    ap (stands_out_of nodes marks n column) more

pub stands_ended : (nodes : ℕ) (marks : List Symbol) (n column end : ℕ) → end ≤ column → stands_out_of nodes marks n column (end - column) ≡ []
stands_ended nodes marks n column end le = let none : end - column ≡ 0 = omega arith in ap (stands_out_of nodes marks n column) none

-- the text so far, followed by the bars that are not written yet, is the text of all bars
pub record HasBars (row node : ℕ) (s : Stand) (start column : ℕ) (rest all : List Stand) (before text : List ℕ) : Type 0 where
  pub ordered : start ≤ column
  pub text_is : text ++ texts (bars_from row node s start column rest) ≡ before ++ texts (bars_from row node stand.Away 0 0 all)

pub bars_begun : (row node : ℕ) (rest all : List Stand) (text : List ℕ) → rest ≡ all → HasBars row node stand.Away 0 0 rest all text text
bars_begun row node rest all text same = record { ordered = omega arith; text_is = ap (λ ss. text ++ texts (bars_from row node stand.Away 0 0 ss)) same }

not_true : (b : Bool) → not b ≡ true → b ≡ false
not_true true h = sym h
not_true false h = refl

not_false : (b : Bool) → not b ≡ false → b ≡ true
not_false true h = refl
not_false false h = sym h

-- the node is in the same state
pub bar_goes_on : (row node : ℕ) (s next : Stand) (start column : ℕ) (now rest all : List Stand) (before text after : List ℕ) → HasBars row node s start column now all before text
    → now ≡ next ∷ rest → not (is_same next s) ≡ false → after ≡ text → HasBars row node s start (column + 1) rest all before after
bar_goes_on row node s next start column now rest all before text after had now_is stays kept =
    let ordered = had.ordered in
    let same : is_same next s ≡ true = not_false (is_same next s) stays in
    record {
      ordered = omega arith;
      text_is = ap (λ t. t ++ texts (bars_from row node s start (column + 1) rest)) kept
          ∙ ap (λ b. text ++ texts (cond b (bars_from row node s start (column + 1) rest) (bar_of row start column s node ++ bars_from row node next column (column + 1) rest))) (sym same)
          ∙ ap (λ ss. text ++ texts (bars_from row node s start column ss)) (sym now_is) ∙ had.text_is;
    }

-- the node is in another state
pub bar_ends : (row node : ℕ) (s next : Stand) (start column : ℕ) (now rest all : List Stand) (before text after : List ℕ) → HasBars row node s start column now all before text
    → now ≡ next ∷ rest → not (is_same next s) ≡ true → after ≡ text ++ texts (bar_of row start column s node) → HasBars row node next column (column + 1) rest all before after
bar_ends row node s next start column now rest all before text after had now_is changes pushed =
    let other : is_same next s ≡ false = not_true (is_same next s) changes in
    record {
      ordered = omega arith;
      text_is = ap (λ t. t ++ texts (bars_from row node next column (column + 1) rest)) pushed
          ∙ append_assoc text (texts (bar_of row start column s node)) (texts (bars_from row node next column (column + 1) rest))
          ∙ ap (λ t. text ++ t) (sym (texts-append (bar_of row start column s node) (bars_from row node next column (column + 1) rest)))
          ∙ ap (λ b. text ++ texts (cond b (bars_from row node s start (column + 1) rest) (bar_of row start column s node ++ bars_from row node next column (column + 1) rest))) (sym other)
          ∙ ap (λ ss. text ++ texts (bars_from row node s start column ss)) (sym now_is) ∙ had.text_is;
    }

-- the same, with the new values of the variables
pub bars_are : (row node : ℕ) (s s' : Stand) (start start' column : ℕ) (rest all : List Stand) (before after : List ℕ) → HasBars row node s start column rest all before after → s' ≡ s → start' ≡ start
    → HasBars row node s' start' column rest all before after
bars_are row node s s' start start' column rest all before after had e f =
    subst (λ (x : Stand). HasBars row node x start' column rest all before after) (sym e) (subst (λ (x : ℕ). HasBars row node s x column rest all before after) (sym f) had)

-- there are no more columns
pub bars_ended : (row node : ℕ) (s : Stand) (start column end : ℕ) (now all : List Stand) (before text after : List ℕ) → HasBars row node s start column now all before text
    → now ≡ [] → column ≡ end → after ≡ text ++ texts (bar_of row start end s node) → after ≡ before ++ texts (bars_from row node stand.Away 0 0 all)
bars_ended row node s start column end now all before text after had none at pushed =
    pushed ∙ ap (λ e. text ++ texts (bar_of row start e s node)) (sym at) ∙ ap (λ ss. text ++ texts (bars_from row node s start column ss)) (sym none) ∙ had.text_is

-- a row, made of its line, bars and names
pub row_whole : (before : List ℕ) (lane : Shape) (bars names : List Shape) (a b after : List ℕ) → a ≡ before ++ shape_text lane → b ≡ a ++ texts bars → after ≡ b ++ texts names
    → after ≡ before ++ texts (lane ∷ bars ++ names)
row_whole before lane bars names a b after is then last =
    last ∙ ap (λ t. t ++ texts names) (then ∙ ap (λ t. t ++ texts bars) is)
    ∙ append_assoc (before ++ shape_text lane) (texts bars) (texts names) ∙ append_assoc before (shape_text lane) (texts bars ++ texts names)
    ∙ ap (λ t. before ++ (shape_text lane ++ t)) (sym (texts-append bars names))

-- a column, made of its number, arrow, bytes and call
pub column_whole : (before : List ℕ) (number : Shape) (arrow bytes : List Shape) (call : Shape) (a b c after : List ℕ) → a ≡ before ++ shape_text number → b ≡ a ++ texts arrow → c ≡ b ++ texts bytes → after ≡ c ++ shape_text call
    → after ≡ before ++ texts (number ∷ arrow ++ bytes ++ call ∷ [])
column_whole before number arrow bytes call a b c after is then next last =
    last ∙ ap (λ t. t ++ shape_text call) (next ∙ ap (λ t. t ++ texts bytes) (row_whole before number arrow [] a b b is then (sym (append-nil b)) ∙ ap (λ (ss : List Shape). before ++ (shape_text number ++ texts ss)) (append-nil arrow)))
    ∙ append_assoc (before ++ (shape_text number ++ texts arrow)) (texts bytes) (shape_text call) ∙ append_assoc before (shape_text number ++ texts arrow) (texts bytes ++ shape_text call)
    ∙ ap (λ t. before ++ t) (append_assoc (shape_text number) (texts arrow) (texts bytes ++ shape_text call))
    ∙ ap (λ t. before ++ (shape_text number ++ t)) (sym (texts-append (arrow ++ bytes) (call ∷ []) ∙ ap (λ t. t ++ texts (call ∷ [])) (texts-append arrow bytes) ∙ ap (λ t. (texts arrow ++ texts bytes) ++ t) (texts-one call) ∙ append_assoc (texts arrow) (texts bytes) (shape_text call)))

-- a line, made of its beginning, rows and columns
five : (p a r q t : List ℕ) → (((p ++ a) ++ r) ++ q) ++ t ≡ p ++ (a ++ (r ++ q) ++ t)
five p a r q t = simp append_assoc

pub line_whole : (before begin end : List ℕ) (rows columns : ℕ → List Shape) (shown : List ℕ) (n : ℕ) (a b c after : List ℕ) → a ≡ before ++ begin → b ≡ a ++ flat_map (λ k. texts (rows k)) shown
    → c ≡ b ++ flat_map (λ k. texts (columns k)) (range_with_len 0 n) → after ≡ c ++ end → after ≡ before ++ (begin ++ texts (flat_map rows shown ++ flat_map columns (range_with_len 0 n)) ++ end)
line_whole before begin end rows columns shown n a b c after is then next last =
    last ∙ ap (λ t. t ++ end) (next ∙ ap (λ t. t ++ flat_map (λ k. texts (columns k)) (range_with_len 0 n)) (then ∙ ap (λ t. t ++ flat_map (λ k. texts (rows k)) shown) is))
    ∙ five before begin (flat_map (λ k. texts (rows k)) shown) (flat_map (λ k. texts (columns k)) (range_with_len 0 n)) end
    ∙ ap (λ t. before ++ (begin ++ t ++ end)) (sym (texts-append (flat_map rows shown) (flat_map columns (range_with_len 0 n)) ∙ ap (λ t. t ++ texts (flat_map columns (range_with_len 0 n))) (texts-flat_map rows shown)
    ∙ ap (λ t. flat_map (λ k. texts (rows k)) shown ++ t) (texts-flat_map columns (range_with_len 0 n))))

-- the arrow of a handoff
pub arrow_pushed : (shown : List ℕ) (column number from to : ℕ) (before after : Option ℕ) (svg pushed : List ℕ) → before ≡ Some from → after ≡ Some to → (from ≡ to → ⊥)
    → pushed ≡ svg ++ arrow_text column number (row_of shown from) from (row_of shown to) to → pushed ≡ svg ++ texts (arrow_of shown column number before after)
arrow_pushed shown column number from to before after svg pushed was is apart last =
    let other : (from == to) ≡ false = ne_eqb from to apart in
    let arrow : Shape = Arrow column number (row_of shown from) from (row_of shown to) to in
    last ∙ ap (λ t. svg ++ t) (sym (texts-one arrow)) ∙ ap (λ b. svg ++ texts (cond b [] (arrow ∷ []))) (sym other)
    ∙ ap (λ (a : Option ℕ). svg ++ texts (arrow_of shown column number (Some from) a)) (sym is) ∙ ap (λ (b : Option ℕ). svg ++ texts (arrow_of shown column number b after)) (sym was)

-- the bytes of a write
pub bytes_pushed : (shown : List ℕ) (column node line : ℕ) (mask : Mask) (bytes : Line64) (c : Command) (what : Said) (svg pushed : List ℕ) → c ≡ Write node line mask bytes → what ≡ said.Written
    → pushed ≡ svg ++ bytes_text (row_of shown node) column bytes.bytes (places_in mask.0) → pushed ≡ svg ++ texts (bytes_of shown column c what)
bytes_pushed shown column node line mask bytes c what svg pushed is answered last =
    last ∙ ap (λ t. svg ++ t) (sym (texts-one (Bytes (row_of shown node) column bytes.bytes (places_in mask.0))))
    ∙ ap (λ (a : Said). svg ++ texts (bytes_of shown column (Write node line mask bytes) a)) (sym answered) ∙ ap (λ (b : Command). svg ++ texts (bytes_of shown column b what)) (sym is)
