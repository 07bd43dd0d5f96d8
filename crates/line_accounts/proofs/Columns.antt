-- Lemmas about lists of ports on several lines, where the lines are added one after another.
use Rattle.std.proofs.Common.{◌≡◌, ◌+◌, ◌<◌, ◌≤◌, inl, inr, ℕ, List, [], ◌∷◌, ◌++◌, length, map, drop, All, Option, Some, None, option_map, Vec, Global, slice_get, slice_index_or, refl, sym, ap, subst, ◌∙◌, arith, append-nil, length-append}
use Rattle.std.proofs.Math.ListN.{set}
use Rattle.std.proofs.lemmas.List.{length-map}
use Rattle.std.proofs.lemmas.List.Elements.{All-head, All-push}
use Rattle.std.proofs.lemmas.Bool.{cases_eq}
use Rattle.std.proofs.lemmas.Option.{slice_get_within, slice_get-get_or, slice_get-map, get_or_from_slice_get}
use Rattle.qolb_model.specs.declared.answer.PortState.TheVariants.{Idle}
use Rattle.qolb_model.specs.declared.view.View.{View}
use Rattle.qolb_model.proofs.Lists.{same_some, slice_get-append_left, slice_get-push, slice_get-drop, drop_with}
use Rattle.line_accounts.specs.Desks.{DeskOf, AreOver}
use Rattle.line_accounts.proofs.Accounted.{slice_get-set_same, slice_get-set_other}
use Rattle.line_accounts.specs.NewDesks.{IsNewPort, IsColumn, GainEach, AreDealt}

-- what holds of all elements holds of the first
pub all_first : {X : Type 0} (P : X → Type 0) (x : X) (xs ys : List X) → ys ≡ x ∷ xs → All P ys → P x
all_first P x xs ys e all = All-head P x xs (subst (All P) e all)

-- no line, and no port
pub column_none : {Line Port : Type 0} (belongs : Line → Port → Type 0) (view : Port → View) → IsColumn belongs view [] []
column_none {Line} {Port} belongs view = record {
  over = record { count = refl; each_belongs = λ i line port at_line at_port. absurd (let lt : i < 0 = slice_get_within [] i line at_line in omega (arith, lt)) };
  unused = λ k d lt. absurd (omega (arith, lt));
}

-- no line yet, and as many lists without a port
pub columns_none : {Line Port : Type 0} (belongs : Line → Port → Type 0) (view : Port → View) (lines : List Line) (columns : List (Vec Port Global)) → lines ≡ [] → All (λ (column : Vec Port Global). column.items ≡ []) columns → All (λ (column : Vec Port Global). IsColumn belongs view lines column.items) columns
columns_none {Line} {Port} belongs view lines columns none empty = λ k d lt.
    subst (λ (lines : List Line). IsColumn belongs view lines (slice_index_or columns k d).items) (sym none) (subst (IsColumn belongs view []) (sym (empty k d lt)) (column_none belongs view))

-- one more line, and a new port of it
pub over_more : {Line Port : Type 0} (belongs : Line → Port → Type 0) (lines : List Line) (line : Line) (ports : List Port) (port : Port) → AreOver belongs lines ports → belongs line port → AreOver belongs (lines ++ line ∷ []) (ports ++ port ∷ [])
over_more {Line} {Port} belongs lines line ports port over own = record {
  count = length-append ports (port ∷ []) ∙ (ap (λ n. n + 1) over.count ∙ sym (length-append lines (line ∷ [])));
  each_belongs = λ i l p at_l at_p. elim (cases_eq i (length lines)) [
    | inl e ↦
        let same_line : line ≡ l = same_some (sym (slice_get-push lines line) ∙ (ap (slice_get (lines ++ line ∷ [])) (sym e) ∙ at_l)) in
        let same_port : port ≡ p = same_some (sym (slice_get-push ports port) ∙ (ap (slice_get (ports ++ port ∷ [])) (over.count ∙ sym e) ∙ at_p)) in
        subst (λ l. belongs l p) same_line (subst (λ p. belongs line p) same_port own)
    | inr ne ↦
        let lt : i < length (lines ++ line ∷ []) = slice_get_within (lines ++ line ∷ []) i l at_l in
        let more : length (lines ++ line ∷ []) ≡ length lines + 1 = length-append lines (line ∷ []) in
        let low : i < length lines = omega (arith, lt, more, ne) in
        let low_port : i < length ports = omega (arith, low, over.count) in
        over.each_belongs i l p (sym (slice_get-append_left lines (line ∷ []) i low) ∙ at_l) (sym (slice_get-append_left ports (port ∷ []) i low_port) ∙ at_p)
  ];
}

pub column_more : {Line Port : Type 0} (belongs : Line → Port → Type 0) (view : Port → View) (lines : List Line) (line : Line) (ports : List Port) (port : Port) → IsColumn belongs view lines ports → IsNewPort belongs view line port → IsColumn belongs view (lines ++ line ∷ []) (ports ++ port ∷ [])
column_more {Line} {Port} belongs view lines line ports port column new = record {
  over = over_more belongs lines line ports port column.over new.of_line;
  unused = All-push (λ (port : Port). ((view port).state ≡ Idle) × ((view port).count ≡ 0)) ports port column.unused (new.idle, new.never);
}

-- the first `index` lists have a port of the line
pub record IsAdding {Line Port : Type 0} (belongs : Line → Port → Type 0) (view : Port → View) (lines : List Line) (line : Line) (columns : List (Vec Port Global)) (index : ℕ) : Type 0 where
  pub done : (k : ℕ) (column : Vec Port Global) → k < index → slice_get columns k ≡ Some column → IsColumn belongs view (lines ++ line ∷ []) column.items
  pub left : (k : ℕ) (column : Vec Port Global) → index ≤ k → slice_get columns k ≡ Some column → IsColumn belongs view lines column.items

module _ {Line Port : Type 0} (belongs : Line → Port → Type 0) (view : Port → View) (lines : List Line) (line : Line) where
  pub adding_none : (columns : List (Vec Port Global)) → All (λ (column : Vec Port Global). IsColumn belongs view lines column.items) columns → IsAdding belongs view lines line columns 0
  adding_none columns all = record {
    done = λ k column lt at. absurd (omega (arith, lt));
    left = λ k column le at. subst (λ (c : Vec Port Global). IsColumn belongs view lines c.items) (get_or_from_slice_get columns k column column at) (all k column (slice_get_within columns k column at));
  }

  pub adding_more : (columns : List (Vec Port Global)) (index : ℕ) (column column_then : Vec Port Global) (port : Port) → IsAdding belongs view lines line columns index → index < length columns → slice_get columns index ≡ Some column
      → column_then.items ≡ column.items ++ port ∷ [] → IsNewPort belongs view line port → IsAdding belongs view lines line (set columns index column_then) (index + 1)
  adding_more columns index column column_then port adding lt at is new = record {
    done = λ k c less at_c. elim (cases_eq k index) [
      | inl e ↦
          let same : column_then ≡ c = same_some (sym (slice_get-set_same columns index column_then lt) ∙ (ap (slice_get (set columns index column_then)) (sym e) ∙ at_c)) in
          let more : IsColumn belongs view (lines ++ line ∷ []) (column.items ++ port ∷ []) = column_more belongs view lines line column.items port (adding.left index column (omega arith) at) new in
          subst (λ (c : Vec Port Global). IsColumn belongs view (lines ++ line ∷ []) c.items) same (subst (IsColumn belongs view (lines ++ line ∷ [])) (sym is) more)
      | inr ne ↦ adding.done k c (omega (arith, less, ne)) (sym (slice_get-set_other columns index k column_then ne) ∙ at_c)
    ];
    left = λ k c le at_c.
        let ne : k ≡ index → ⊥ = λ e. omega (arith, e, le) in
        adding.left k c (omega (arith, le)) (sym (slice_get-set_other columns index k column_then ne) ∙ at_c);
  }

  pub adding_all : (columns : List (Vec Port Global)) (index : ℕ) → IsAdding belongs view lines line columns index → index ≡ length columns → All (λ (column : Vec Port Global). IsColumn belongs view (lines ++ line ∷ []) column.items) columns
  adding_all columns index adding all = λ k d lt. adding.done k _ (omega (arith, lt, all)) (slice_get-get_or columns k d lt)

-- the first `index` lists have gained their port
pub record IsGaining {Port : Type 0} (ports : List Port) (old new : List (Vec Port Global)) (index : ℕ) : Type 0 where
  pub done : (k : ℕ) (column_then : Vec Port Global) → k < index → slice_get new k ≡ Some column_then
      → (column : Vec Port Global) × (port : Port) × (slice_get old k ≡ Some column) × (slice_get ports k ≡ Some port) × (column_then.items ≡ column.items ++ port ∷ [])
  pub left : (k : ℕ) → index ≤ k → slice_get new k ≡ slice_get old k

pub gaining_none : {Port : Type 0} (ports : List Port) (old : List (Vec Port Global)) → IsGaining ports old old 0
gaining_none ports old = record { done = λ k column lt at. absurd (omega (arith, lt)); left = λ k le. refl }

pub gaining_more : {Port : Type 0} (ports : List Port) (old new : List (Vec Port Global)) (index : ℕ) (column column_then : Vec Port Global) (port : Port) → IsGaining ports old new index → index < length new
    → slice_get new index ≡ Some column → slice_get ports index ≡ Some port → column_then.items ≡ column.items ++ port ∷ [] → IsGaining ports old (set new index column_then) (index + 1)
gaining_more {Port} ports old new index column column_then port g lt at at_port is = record {
  done = λ k c less at_c. elim (cases_eq k index) [
    | inl e ↦
        let same : column_then ≡ c = same_some (sym (slice_get-set_same new index column_then lt) ∙ (ap (slice_get (set new index column_then)) (sym e) ∙ at_c)) in (
          column,
          port,
          ap (slice_get old) e ∙ (sym (g.left index (omega arith)) ∙ at),
          ap (slice_get ports) e ∙ at_port,
          ap (λ (c : Vec Port Global). c.items) (sym same) ∙ is,
        )
    | inr ne ↦ g.done k c (omega (arith, less, ne)) (sym (slice_get-set_other new index k column_then ne) ∙ at_c)
  ];
  left = λ k le. slice_get-set_other new index k column_then (λ e. omega (arith, e, le)) ∙ g.left k (omega (arith, le));
}

pub gaining_all : {Port : Type 0} (ports : List Port) (old new : List (Vec Port Global)) (index : ℕ) → IsGaining ports old new index → index ≡ length new → GainEach ports old new
gaining_all ports old new index g all = λ k column_then at. g.done k column_then (let lt = slice_get_within new k column_then at in omega (arith, lt, all)) at

-- what is left of a list begins with its element at that place
pub first_left : {X : Type 0} (xs rest : List X) (x : X) (i : ℕ) → drop i xs ≡ x ∷ rest → slice_get xs i ≡ Some x
first_left xs rest x i is = let place : i ≡ i + 0 = omega arith in ap (slice_get xs) place ∙ (sym (slice_get-drop i xs 0) ∙ ap (λ l. slice_get l 0) is)

pub drop-next : {X : Type 0} (xs rest : List X) (x : X) (i : ℕ) → drop i xs ≡ x ∷ rest → rest ≡ drop (i + 1) xs
drop-next xs rest x i is =
    let front = drop_with xs i x (first_left xs rest x i is) in
    let both : x ∷ rest ≡ x ∷ drop (i + 1) xs = sym is ∙ front in
    cc both

-- the lists have the ports of the first `lines` lines
abbrev pub HaveDealt : {Line Port : Type 0} → List (Line × Vec Port Global) → ℕ → List (Vec Port Global) → Type 0
HaveDealt {Line} {Port} opened lines columns = (k i : ℕ) (column : Vec Port Global) (line : Line × Vec Port Global) → i < lines → slice_get columns k ≡ Some column → slice_get opened i ≡ Some line → slice_get column.items i ≡ slice_get line.1.items k

pub dealt_more : {Line Port : Type 0} (opened : List (Line × Vec Port Global)) (lines : ℕ) (old new : List (Vec Port Global)) (line : Line × Vec Port Global) → slice_get opened lines ≡ Some line
    → ((k : ℕ) (column : Vec Port Global) → slice_get old k ≡ Some column → length column.items ≡ lines) → GainEach line.1.items old new → HaveDealt opened lines old → HaveDealt opened (lines + 1) new
dealt_more {Line} {Port} opened lines old new line at_line long gains dealt = λ k i column_then l lt at at_l.
    let (column, port, at_old, at_port, is) = gains k column_then at in
    elim (cases_eq i lines) [
      | inl e ↦
          let same : line ≡ l = same_some (sym at_line ∙ (ap (slice_get opened) (sym e) ∙ at_l)) in
          let place : i ≡ length column.items = e ∙ sym (long k column at_old) in
          ap (λ xs. slice_get xs i) is ∙ (ap (slice_get (column.items ++ port ∷ [])) place ∙ (slice_get-push column.items port ∙ (sym at_port ∙ ap (λ (x : Line × Vec Port Global). slice_get x.1.items k) same)))
      | inr ne ↦
          let low : i < length column.items = omega (arith, lt, ne, long k column at_old) in
          ap (λ xs. slice_get xs i) is ∙ (slice_get-append_left column.items (port ∷ []) i low ∙ dealt k i column l (omega (arith, lt, ne)) at_old at_l)
    ]

pub dealt_none : {Line Port : Type 0} (opened : List (Line × Vec Port Global)) (lines : ℕ) (columns : List (Vec Port Global)) → lines ≡ 0 → HaveDealt opened lines columns
dealt_none opened lines columns none = λ k i column line lt at at_line. absurd (omega (arith, lt, none))

-- desks that were made of the lists have their ports
pub desks_dealt : {Line Port : Type 0} (opened : List (Line × Vec Port Global)) (lines : ℕ) (columns : List (Vec Port Global)) (desks : List (DeskOf Port)) → lines ≡ length opened → HaveDealt opened lines columns
    → map (λ (desk : DeskOf Port). desk.ports) desks ≡ map (λ (column : Vec Port Global). column.items) columns → AreDealt opened desks
desks_dealt {Line} {Port} opened lines columns desks all dealt are = λ k i desk line at at_line.
    let of_desk : slice_get (map (λ (desk : DeskOf Port). desk.ports) desks) k ≡ Some desk.ports = slice_get-map (λ (desk : DeskOf Port). desk.ports) desks k ∙ ap (option_map (λ (desk : DeskOf Port). desk.ports)) at in
    by k i desk line at_line (slice_get columns k) refl (sym (slice_get-map (λ (column : Vec Port Global). column.items) columns k) ∙ (ap (λ l. slice_get l k) (sym are) ∙ of_desk))
  where
    by : (k i : ℕ) (desk : DeskOf Port) (line : Line × Vec Port Global) → slice_get opened i ≡ Some line → (o : Option (Vec Port Global)) → slice_get columns k ≡ o → option_map (λ (column : Vec Port Global). column.items) o ≡ Some desk.ports → slice_get desk.ports i ≡ slice_get line.1.items k
    by k i desk line at_line (Some column) at is = ap (λ l. slice_get l i) (sym (same_some is)) ∙ dealt k i column line (let lt = slice_get_within opened i line at_line in omega (arith, lt, all)) at at_line
    by k i desk line at_line None at is = absurd (let no : None ≡ Some desk.ports = is in cc no)

-- what holds of all lists holds of the list at a place
pub column_at : {Line Port : Type 0} (belongs : Line → Port → Type 0) (view : Port → View) (lines : List Line) (columns : List (Vec Port Global)) → All (λ (column : Vec Port Global). IsColumn belongs view lines column.items) columns
    → (k : ℕ) (column : Vec Port Global) → slice_get columns k ≡ Some column → IsColumn belongs view lines column.items
column_at {Line} {Port} belongs view lines columns all k column at = subst (λ (c : Vec Port Global). IsColumn belongs view lines c.items) (get_or_from_slice_get columns k column column at) (all k column (slice_get_within columns k column at))

-- one more desk, and one list fewer
pub desks_move : {Port : Type 0} (desks desks_then : List (DeskOf Port)) (desk : DeskOf Port) (column : Vec Port Global) (rest columns : List (Vec Port Global)) → desks_then ≡ desks ++ desk ∷ [] → desk.ports ≡ column.items → columns ≡ column ∷ rest
    → map (λ (desk : DeskOf Port). desk.ports) desks_then ++ map (λ (column : Vec Port Global). column.items) rest ≡ map (λ (desk : DeskOf Port). desk.ports) desks ++ map (λ (column : Vec Port Global). column.items) columns
desks_move {Port} desks desks_then desk column rest columns pushed is step =
    ap (λ (ds : List (DeskOf Port)). map (λ (desk : DeskOf Port). desk.ports) ds ++ map (λ (column : Vec Port Global). column.items) rest) pushed
    ∙ (go desks
    ∙ ap (λ (cs : List (Vec Port Global)). map (λ (desk : DeskOf Port). desk.ports) desks ++ map (λ (column : Vec Port Global). column.items) cs) (sym step))
  where
    go : (ds : List (DeskOf Port)) → map (λ (desk : DeskOf Port). desk.ports) (ds ++ desk ∷ []) ++ map (λ (column : Vec Port Global). column.items) rest ≡ map (λ (desk : DeskOf Port). desk.ports) ds ++ map (λ (column : Vec Port Global). column.items) (column ∷ rest)
    go [] = ap (λ (ps : List Port). ps ∷ map (λ (column : Vec Port Global). column.items) rest) is
    go (d ∷ ds) = ap (λ xs. d.ports ∷ xs) (go ds)

-- if no list is left, all of them were given
pub all_moved : {X Y : Type 0} (given : List Y) (f : X → Y) (rest : List X) (all : List Y) → length rest ≡ 0 → given ++ map f rest ≡ all → given ≡ all
all_moved given f [] all none is = sym (append-nil given) ∙ is
all_moved given f (x ∷ rest) all none is = absurd (omega (arith, none))

pub all_given : {X Y : Type 0} (f : X → Y) (given : List Y) (rest all : List X) → length rest ≡ 0 → given ++ map f rest ≡ map f all → length given ≡ length all
all_given f given rest all none is = ap length (all_moved given f rest (map f all) none is) ∙ length-map all f
