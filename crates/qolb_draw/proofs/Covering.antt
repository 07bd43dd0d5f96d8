-- Proof that in the timeline of a schedule, the bar of a node over a command has the kind that the node's mark after
-- the command requires. If the mark requires no bar, the node has no bar over the command.
use Rattle.std.proofs.Common.{◌≡◌, ℕ, zero, suc, ◌+◌, ◌*◌, ◌<◌, ◌≤◌, ◌==◌, ◌&&◌, cond, Bool, true, false, List, [], ◌∷◌, ◌++◌, length, map, filter, flat_map, slice_get, option_map, Option, Some, None, refl, sym, ap, ◌∙◌, arith, append-nil, eq-eqb, eqb-true}
use Rattle.std.specs.List.{list_any, range_with_len, slice_index_or}
use Rattle.std.proofs.lemmas.Bool.Decides.{nat_tests}
use Rattle.std.proofs.lemmas.Grind.{flat_map-append}
use Rattle.std.proofs.lemmas.Option.{slice_get-map, slice_get_within, same_Some}
use Rattle.qolb_script.specs.declared.command.Command.{Command}
use Rattle.qolb_script.specs.declared.command.Command.TheVariants.{Write}
use Rattle.qolb_script.specs.declared.reply_text.Said.{Said}
use Rattle.qolb_script.specs.declared.reply_text.Said.TheVariants as said
use Rattle.qolb_script.specs.Commands.{node_of}
use Rattle.qolb_draw.specs.declared.bar.Stand.{Stand}
use Rattle.qolb_draw.specs.declared.bar.Stand.TheVariants as stand
use Rattle.qolb_draw.specs.declared.event.Event.{Event}
use Rattle.qolb_draw.specs.declared.svg.TheConstants.{NAMED_EVERY}
use Rattle.qolb_draw.specs.Laws.{BarsCoverMarks, kind_over, kinds_over, shown_as}
use Rattle.qolb_draw.specs.LineRuns.{Step, callers, event_of, mark_at, steps_on}
use Rattle.qolb_draw.specs.Shapes.{Arrow, Call, Lane, Name, Number, Shape, is_same, name_count, stand_of}
use Rattle.qolb_draw.specs.Timelines.{arrow_of, bar_of, bars_from, bytes_of, column_shapes, columns_of, names_of, no_event, row_of, row_shapes, stands_of}
use Rattle.qolb_draw.proofs.Bars.{is_over, over, not_yet, no_more}

-- one bar
same_if : (b : Bool) (xs : List Stand) → cond b xs xs ≡ xs
same_if true xs = refl
same_if false xs = refl

own : (n : ℕ) (s : Stand) (b : Bool) → cond ((n == n) && b) (s ∷ []) [] ++ [] ≡ cond b (s ∷ []) []
own n s b = append-nil (cond ((n == n) && b) (s ∷ []) []) ∙ ap (λ t. cond (t && b) (s ∷ []) []) (eq-eqb n n refl)

bar_over : (row start end : ℕ) (s : Stand) (n column : ℕ) → kinds_over n column (bar_of row start end s n) ≡ cond (is_over start end column) (shown_as s) []
bar_over row start end stand.Away n column = sym (same_if (is_over start end column) [])
bar_over row start end stand.Waits n column = own n stand.Waits (is_over start end column)
bar_over row start end stand.AtTurn n column = own n stand.AtTurn (is_over start end column)
bar_over row start end stand.Holds n column = own n stand.Holds (is_over start end column)
bar_over row start end stand.Withdrawn n column = own n stand.Withdrawn (is_over start end column)

-- two bars, and the bars after them
two : (n column : ℕ) (xs ys : List Shape) (a b : List Stand) → kinds_over n column xs ≡ a → kinds_over n column ys ≡ b → kinds_over n column (xs ++ ys) ≡ a ++ b
two n column xs ys a b e f = flat_map-append (kind_over n column) xs ys ∙ ap (λ ks. ks ++ kinds_over n column ys) e ∙ ap (λ ks. a ++ ks) f

-- bars that begin after the column
before : (row n column start now : ℕ) (s : Stand) (rest : List Stand) → column < start → start ≤ now → kinds_over n column (bars_from row n s start now rest) ≡ []
before row n column start now s [] lt le = bar_over row start now s n column ∙ ap (λ b. cond b (shown_as s) []) (not_yet start now column lt)
before row n column start now s (next ∷ rest) lt le =
    elim (is_same next s) as (λ b. kinds_over n column (cond b (bars_from row n s start (now + 1) rest) (bar_of row start now s n ++ bars_from row n next now (now + 1) rest)) ≡ []) [
      | true ↦ before row n column start (now + 1) s rest lt (omega arith)
      | false ↦
          two n column (bar_of row start now s n) (bars_from row n next now (now + 1) rest) [] [] (bar_over row start now s n column ∙ ap (λ b. cond b (shown_as s) []) (not_yet start now column lt))
          (before row n column now (now + 1) next rest (omega arith) (omega arith))
    ]

-- the first bar covers a column before its end
within : (row n column start now : ℕ) (s : Stand) (rest : List Stand) → start ≤ column → column < now → kinds_over n column (bars_from row n s start now rest) ≡ shown_as s
within row n column start now s [] from to = bar_over row start now s n column ∙ ap (λ b. cond b (shown_as s) []) (over start now column from to)
within row n column start now s (next ∷ rest) from to =
    elim (is_same next s) as (λ b. kinds_over n column (cond b (bars_from row n s start (now + 1) rest) (bar_of row start now s n ++ bars_from row n next now (now + 1) rest)) ≡ shown_as s) [
      | true ↦ within row n column start (now + 1) s rest from (omega arith)
      | false ↦
          two n column (bar_of row start now s n) (bars_from row n next now (now + 1) rest) (shown_as s) [] (bar_over row start now s n column ∙ ap (λ b. cond b (shown_as s) []) (over start now column from to))
          (before row n column now (now + 1) next rest to (omega arith))
          ∙ append-nil (shown_as s)
    ]

same_stand : (a b : Stand) → is_same a b ≡ true → a ≡ b
same_stand stand.Away stand.Away h = refl
same_stand stand.Waits stand.Waits h = refl
same_stand stand.AtTurn stand.AtTurn h = refl
same_stand stand.Holds stand.Holds h = refl
same_stand stand.Withdrawn stand.Withdrawn h = refl
same_stand a b h = absurd (cc h)

-- the next column
next_at : (row n column start now : ℕ) (s next : Stand) (rest : List Stand) (b : Bool) → start ≤ now → column ≡ now → is_same next s ≡ b
    → kinds_over n column (cond b (bars_from row n s start (now + 1) rest) (bar_of row start now s n ++ bars_from row n next now (now + 1) rest)) ≡ shown_as next
next_at row n column start now s next rest true le e h = within row n column start (now + 1) s rest (omega arith) (omega arith) ∙ ap shown_as (sym (same_stand next s h))
next_at row n column start now s next rest false le e h =
    two n column (bar_of row start now s n) (bars_from row n next now (now + 1) rest) [] (shown_as next)
    (bar_over row start now s n column ∙ ap (λ b. cond b (shown_as s) []) (no_more start now column (omega arith)))
    (within row n column now (now + 1) next rest (omega arith) (omega arith))

-- a column k further on
at : (row n column start now k : ℕ) (s t : Stand) (rest : List Stand) → start ≤ now → column ≡ now + k → slice_get rest k ≡ Some t → kinds_over n column (bars_from row n s start now rest) ≡ shown_as t
at row n column start now k s t [] le e is = let lt : k < 0 = slice_get_within [] k t is in absurd (omega arith)
at row n column start now zero s t (next ∷ rest) le e is = next_at row n column start now s next rest (is_same next s) le (omega arith) refl ∙ ap shown_as (same_Some next t is)
at row n column start now (suc k) s t (next ∷ rest) le e is =
    elim (is_same next s) as (λ b. kinds_over n column (cond b (bars_from row n s start (now + 1) rest) (bar_of row start now s n ++ bars_from row n next now (now + 1) rest)) ≡ shown_as t) [
      | true ↦ at row n column start (now + 1) k s t rest (omega arith) (omega arith) is
      | false ↦
          two n column (bar_of row start now s n) (bars_from row n next now (now + 1) rest) [] (shown_as t)
          (bar_over row start now s n column ∙ ap (λ b. cond b (shown_as s) []) (no_more start now column (omega arith)))
          (at row n column now (now + 1) k next t rest (omega arith) (omega arith) is)
    ]

-- bars of another node
other : (m n : ℕ) (s : Stand) (b : Bool) → (m == n) ≡ false → cond ((m == n) && b) (s ∷ []) [] ++ [] ≡ []
other m n s b apart = append-nil (cond ((m == n) && b) (s ∷ []) []) ∙ ap (λ t. cond (t && b) (s ∷ []) []) apart

bar_of_other : (row start end : ℕ) (s : Stand) (m n column : ℕ) → (m == n) ≡ false → kinds_over n column (bar_of row start end s m) ≡ []
bar_of_other row start end stand.Away m n column apart = refl
bar_of_other row start end stand.Waits m n column apart = other m n stand.Waits (is_over start end column) apart
bar_of_other row start end stand.AtTurn m n column apart = other m n stand.AtTurn (is_over start end column) apart
bar_of_other row start end stand.Holds m n column apart = other m n stand.Holds (is_over start end column) apart
bar_of_other row start end stand.Withdrawn m n column apart = other m n stand.Withdrawn (is_over start end column) apart

bars_of_other : (row m n column start now : ℕ) (s : Stand) (rest : List Stand) → (m == n) ≡ false → kinds_over n column (bars_from row m s start now rest) ≡ []
bars_of_other row m n column start now s [] apart = bar_of_other row start now s m n column apart
bars_of_other row m n column start now s (next ∷ rest) apart =
    elim (is_same next s) as (λ b. kinds_over n column (cond b (bars_from row m s start (now + 1) rest) (bar_of row start now s m ++ bars_from row m next now (now + 1) rest)) ≡ []) [
      | true ↦ bars_of_other row m n column start (now + 1) s rest apart
      | false ↦ two n column (bar_of row start now s m) (bars_from row m next now (now + 1) rest) [] [] (bar_of_other row start now s m n column apart) (bars_of_other row m n column now (now + 1) next rest apart)
    ]

-- names are not bars
no_names : (n column row m : ℕ) (ks : List ℕ) → kinds_over n column (map (λ k. Name row (NAMED_EVERY * k) m) ks) ≡ []
no_names n column row m [] = refl
no_names n column row m (k ∷ ks) = no_names n column row m ks

row_kinds : (shown : List ℕ) (columns m n column : ℕ) (stands : List Stand) (a : List Stand) → kinds_over n column (bars_from (row_of shown m) m stand.Away 0 0 stands) ≡ a
    → kinds_over n column (row_shapes shown columns stands m) ≡ a
row_kinds shown columns m n column stands a is =
    two n column (Lane (row_of shown m) columns ∷ bars_from (row_of shown m) m stand.Away 0 0 stands) (names_of (row_of shown m) columns m) a [] is (no_names n column (row_of shown m) m (range_with_len 0 (name_count columns))) ∙ append-nil a

-- the rows of some nodes
rows_kinds : (n column : ℕ) (rows : ℕ → List Shape) (a : List Stand) → kinds_over n column (rows n) ≡ a → ((m : ℕ) → (m == n) ≡ false → kinds_over n column (rows m) ≡ [])
    → (ms : List ℕ) → kinds_over n column (flat_map rows ms) ≡ flat_map (λ m. cond (m == n) a []) ms
rows_kinds n column rows a its others [] = refl
rows_kinds n column rows a its others (m ∷ ms) = two n column (rows m) (flat_map rows ms) (cond (m == n) a []) (flat_map (λ m. cond (m == n) a []) ms) (one (m == n) refl) (rows_kinds n column rows a its others ms)
  where
    one : (b : Bool) → (m == n) ≡ b → kinds_over n column (rows m) ≡ cond b a []
    one true e = ap (λ k. kinds_over n column (rows k)) (eqb-true m n e) ∙ its
    one false e = others m e

-- a node that passes a test occurs exactly once among the nodes that pass the test
later : (p : ℕ → Bool) (n : ℕ) (a : List Stand) (k from : ℕ) → n < from → flat_map (λ m. cond (m == n) a []) (filter p (range_with_len from k)) ≡ []
later p n a zero from lt = refl
later p n a (suc k) from lt =
    let apart : (from == n) ≡ false = grind (arith, nat_tests) in
    elim (p from) as (λ b. flat_map (λ m. cond (m == n) a []) (cond b (from ∷ filter p (range_with_len (from + 1) k)) (filter p (range_with_len (from + 1) k))) ≡ []) [
      | true ↦ ap (λ b. cond b a [] ++ flat_map (λ m. cond (m == n) a []) (filter p (range_with_len (from + 1) k))) apart ∙ later p n a k (from + 1) (omega arith)
      | false ↦ later p n a k (from + 1) (omega arith)
    ]

behind : (from n : ℕ) → (from == n) ≡ false → from ≤ n → from + 1 ≤ n
behind from n e le = grind (arith, nat_tests)

-- the node is the first of them, or among the rest
first_of : (p : ℕ → Bool) (n : ℕ) (a : List Stand) (from : ℕ) (rest : List ℕ) (t : Bool) → (from == n) ≡ t → p n ≡ true → flat_map (λ m. cond (m == n) a []) rest ≡ cond t [] a
    → flat_map (λ m. cond (m == n) a []) (cond (p from) (from ∷ rest) rest) ≡ a
first_of p n a from rest true e passes none =
    let kept : p from ≡ true = ap p (eqb-true from n e) ∙ passes in
    ap (λ b. flat_map (λ m. cond (m == n) a []) (cond b (from ∷ rest) rest)) kept ∙ ap (λ b. cond b a [] ++ flat_map (λ m. cond (m == n) a []) rest) e
    ∙ ap (λ ks. a ++ ks) none ∙ append-nil a
first_of p n a from rest false e passes on =
    elim (p from) as (λ b. flat_map (λ m. cond (m == n) a []) (cond b (from ∷ rest) rest) ≡ a) [
      | true ↦ ap (λ b. cond b a [] ++ flat_map (λ m. cond (m == n) a []) rest) e ∙ on
      | false ↦ on
    ]

once : (p : ℕ → Bool) (n : ℕ) (a : List Stand) (k from : ℕ) → p n ≡ true → from ≤ n → n < from + k → flat_map (λ m. cond (m == n) a []) (filter p (range_with_len from k)) ≡ a
once p n a zero from passes le lt = absurd (omega arith)
once p n a (suc k) from passes le lt =
    let rest : List ℕ = filter p (range_with_len (from + 1) k) in
    let cases : (t : Bool) → (from == n) ≡ t → flat_map (λ m. cond (m == n) a []) (cond (p from) (from ∷ rest) rest) ≡ a =
    λ t. elim t as (λ t. (from == n) ≡ t → flat_map (λ m. cond (m == n) a []) (cond (p from) (from ∷ rest) rest) ≡ a) [
      | true ↦ λ e. first_of p n a from rest true e passes (later p n a k (from + 1) (let same : from ≡ n = eqb-true from n e in omega arith))
      | false ↦ λ e. first_of p n a from rest false e passes (once p n a k (from + 1) passes (behind from n e le) (omega arith))
    ] in
    cases (from == n) refl

-- the shapes of a command are not bars
no_arrow : (n column k number : ℕ) (shown : List ℕ) (was is : Option ℕ) → kinds_over n column (arrow_of shown k number was is) ≡ []
no_arrow n column k number shown None is = refl
no_arrow n column k number shown (Some from) None = refl
no_arrow n column k number shown (Some from) (Some to) =
    elim (from == to) as (λ b. kinds_over n column (cond b [] (Arrow k number (row_of shown from) from (row_of shown to) to ∷ [])) ≡ []) [ true ↦ refl | false ↦ refl ]

no_bytes : (n column k : ℕ) (shown : List ℕ) (c : Command) (what : Said) → kinds_over n column (bytes_of shown k c what) ≡ []
no_bytes n column k shown (Write node line mask bytes) said.Written = refl
no_bytes n column k shown c what = refl

no_bar : (n column k : ℕ) (shown : List ℕ) (event : Event) → kinds_over n column (column_shapes shown k event) ≡ []
no_bar n column k shown event =
    two n column (Number k event.number ∷ arrow_of shown k event.number event.change.before event.change.after ++ bytes_of shown k event.command event.change.said) (Call (row_of shown event.change.node) k event ∷ []) [] []
    (two n column (Number k event.number ∷ arrow_of shown k event.number event.change.before event.change.after) (bytes_of shown k event.command event.change.said) [] [] (no_arrow n column k event.number shown event.change.before event.change.after) (no_bytes n column k shown event.command event.change.said)) refl

no_bars : (n column : ℕ) (shown : List ℕ) (events : List Event) (ks : List ℕ) → kinds_over n column (flat_map (λ k. column_shapes shown k (slice_index_or events k no_event)) ks) ≡ []
no_bars n column shown events [] = refl
no_bars n column shown events (k ∷ ks) = two n column (column_shapes shown k (slice_index_or events k no_event)) (flat_map (λ j. column_shapes shown j (slice_index_or events j no_event)) ks) [] [] (no_bar n column k shown (slice_index_or events k no_event)) (no_bars n column shown events ks)

pub bars_cover_marks : BarsCoverMarks
bars_cover_marks script line n column step first last calls is =
    let steps : List Step = steps_on line script in
    let shown : List ℕ = callers script.nodes steps in
    let rows : ℕ → List Shape = λ m. row_shapes shown (length steps) (stands_of steps m) m in
    let kinds : List Stand = shown_as (stand_of (mark_at step n)) in
    let there : slice_get (stands_of steps n) column ≡ Some (stand_of (mark_at step n)) =
    slice_get-map (λ (s : Step). stand_of (mark_at s n)) steps column ∙ ap (option_map (λ (s : Step). stand_of (mark_at s n))) is in
    two n column (flat_map rows shown) (columns_of shown (map event_of steps)) kinds []
    (rows_kinds n column rows kinds (row_kinds shown (length steps) n n column (stands_of steps n) kinds (at (row_of shown n) n column 0 0 column stand.Away (stand_of (mark_at step n)) (stands_of steps n) (omega arith) (omega arith) there))
    (λ m apart. row_kinds shown (length steps) m n column (stands_of steps m) [] (bars_of_other (row_of shown m) m n column 0 0 stand.Away (stands_of steps m) apart)) shown
    ∙ once (λ m. list_any (λ (s : Step). node_of s.command == m) steps) n kinds script.nodes 1 calls first (omega arith))
    (no_bars n column shown (map event_of steps) (range_with_len 0 (length (map event_of steps))))
    ∙ append-nil kinds
