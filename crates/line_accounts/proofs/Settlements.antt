-- Lemmas about finishing several lines one after another. Each step finishes the last remaining line, with the last
-- remaining port of each desk.
use Rattle.std.proofs.Common.{◌≡◌, ◌+◌, ◌*◌, ◌^◌, ◌<◌, ◌≤◌, inl, inr, ℕ, suc, List, [], ◌∷◌, ◌++◌, length, map, get_or, Some, None, slice_get, refl, sym, ap, subst, ◌∙◌, arith, zero-add, length-append}
use Rattle.std.specs.List.{sum_by, range_with_len}
use Rattle.std.proofs.Math.ListN.{set}
use Rattle.std.proofs.lemmas.List.{length-set}
use Rattle.std.proofs.lemmas.List.FromFn.{get_or-range_with_len}
use Rattle.std.proofs.lemmas.List.Sums.{sum_by-cons, sum_by_push, sum-map, sum_by-le}
use Rattle.std.proofs.lemmas.Bool.{cases_eq}
use Rattle.std.proofs.lemmas.Option.{slice_get_within}
use Rattle.line_lanes.specs.Lane.{lane_of, lanes_total}
use Rattle.qolb_model.specs.declared.config.LineConfig.{LineConfig}
use Rattle.qolb_model.specs.declared.view.View.{View}
use Rattle.qolb_model.specs.Finishing.{IsFinished}
use Rattle.std.specs.Prelude.{IfOk, IfSome, Option, is_ok, if◌then◌else◌}
use Rattle.std.specs.Result.{result_ok}
use Rattle.std.specs.declared.result.Result.{Result}
use Rattle.std.specs.declared.result.Result.TheVariants.{Ok, Err}
use Rattle.qolb_model.proofs.Lists.{same_some, element_at, slice_get-append_left, slice_get-push}
use Rattle.qolb_model.proofs.Agreeing.{among_map_port}
use Rattle.line_accounts.specs.Accounts.{AreBalances, StayBalances}
use Rattle.qolb_model.specs.Sums.{KnowsOwnPlaces}
use Rattle.line_accounts.specs.Paid.{paid_by, drawn_by}
use Rattle.line_accounts.specs.Desks.{DeskOf, IsAtRest, AreOver, IsDeskOver}
use Rattle.line_accounts.specs.Settled.{all_paid_in, all_paid_out, all_opened, AreAllThere, ArePortsOf, IsSettled, AreSettled, TakesLast}
use Rattle.line_accounts.specs.declared.law.TheConstants.{MAX_BALANCE}
use Rattle.qolb_model.proofs.Sums.{sum-plus, sum-each}
use Rattle.line_accounts.proofs.Turns.{finished_total}
use Rattle.line_accounts.proofs.Accounted.{slice_get-set_same, slice_get-set_other, sum-none}

-- what is taken of the desk at a place
abbrev pub IsTaken : {Port : Type 0} → List (DeskOf Port) → List Port → ℕ → DeskOf Port → Type 0
IsTaken {Port} new ports k desk = (rest : List Port) × (port : Port) × (desk.ports ≡ rest ++ port ∷ []) × (slice_get new k ≡ Some (record desk { ports = rest })) × (slice_get ports k ≡ Some port)

-- the last ports of the first `index` desks are taken
pub record IsTaking {Port : Type 0} (old new : List (DeskOf Port)) (ports : List Port) (index : ℕ) : Type 0 where
  pub many : length new ≡ length old
  pub taken : length ports ≡ index
  pub done : (k : ℕ) (desk : DeskOf Port) → k < index → slice_get old k ≡ Some desk → IsTaken new ports k desk
  pub left : (k : ℕ) → index ≤ k → slice_get new k ≡ slice_get old k

pub taking_none : {Port : Type 0} (old : List (DeskOf Port)) → IsTaking old old [] 0
taking_none old = record { many = refl; taken = refl; done = λ k desk lt. absurd (omega arith); left = λ k le. refl }

pub taking_first : {Port : Type 0} (old new : List (DeskOf Port)) (ports : List Port) → new ≡ old → ports ≡ [] → IsTaking old new ports 0
taking_first {Port} old new ports same none = subst (λ (ds : List (DeskOf Port)). IsTaking old ds ports 0) (sym same) (subst (λ (ps : List Port). IsTaking old old ps 0) (sym none) (taking_none old))

pub taking_more : {Port : Type 0} (old new : List (DeskOf Port)) (ports : List Port) (index : ℕ) (desk rest : DeskOf Port) (port : Port) → IsTaking old new ports index → index < length new → slice_get new index ≡ Some desk
    → desk ≡ record rest { ports = rest.ports ++ port ∷ [] } → IsTaking old (set new index rest) (ports ++ port ∷ []) (index + 1)
taking_more {Port} old new ports index desk rest port t lt at is = record {
  many = length-set new index rest ∙ t.many;
  taken = length-append ports (port ∷ []) ∙ ap (λ n. n + 1) t.taken;
  done = λ k d less at_d. elim (cases_eq k index) [
    | inl e ↦
        let same : desk ≡ d = same_some (sym at ∙ (t.left index (omega arith) ∙ (ap (slice_get old) (sym e) ∙ at_d))) in (
          rest.ports,
          port,
          ap (λ (d : DeskOf Port). d.ports) (sym same ∙ is),
          ap (slice_get (set new index rest)) e ∙ (slice_get-set_same new index rest lt ∙ ap Some (ap (λ (d : DeskOf Port). record d { ports = rest.ports }) (sym is ∙ same))),
          ap (slice_get (ports ++ port ∷ [])) (e ∙ sym t.taken) ∙ slice_get-push ports port,
        )
    | inr ne ↦
        let (front, last, parts, at_new, at_port) = t.done k d (omega (arith, less, ne)) at_d in
        (front, last, parts, slice_get-set_other new index k rest ne ∙ at_new, slice_get-append_left ports (port ∷ []) k (slice_get_within ports k last at_port) ∙ at_port)
  ];
  left = λ k le. slice_get-set_other new index k rest (λ e. omega (arith, e, le)) ∙ t.left k (omega (arith, le));
}

pub taken_all : {Port : Type 0} (old new : List (DeskOf Port)) (ports : List Port) (index : ℕ) → IsTaking old new ports index → index ≡ length old → TakesLast old new ports
taken_all old new ports index t all = record {
  desks_left = t.many;
  ports_taken = t.taken ∙ all;
  each = λ k desk at. t.done k desk (let lt = slice_get_within old k desk at in omega (arith, lt, all)) at;
}

-- sums over the ports of desks
abbrev pub sum_of_ports : {Port : Type 0} → (Port → ℕ) → List (DeskOf Port) → ℕ
sum_of_ports f desks = sum_by (λ desk. sum_by f desk.ports) desks

pub sum-taken : {Port : Type 0} (f : Port → ℕ) (old new : List (DeskOf Port)) (ports : List Port) → TakesLast old new ports → sum_of_ports f old ≡ sum_of_ports f new + sum_by f ports
sum-taken f [] [] [] t = refl
sum-taken f [] (d ∷ new) ports t = absurd (let no : suc (length new) ≡ 0 = t.desks_left in omega arith)
sum-taken f [] [] (p ∷ ports) t = absurd (let no : suc (length ports) ≡ 0 = t.ports_taken in omega arith)
sum-taken f (d ∷ old) [] ports t = absurd (let no : 0 ≡ suc (length old) = t.desks_left in omega arith)
sum-taken f (d ∷ old) (e ∷ new) [] t = absurd (let no : 0 ≡ suc (length old) = t.ports_taken in omega arith)
sum-taken {Port} f (d ∷ old) (e ∷ new) (p ∷ ports) t =
    let (rest, port, parts, at_new, at_port) = t.each 0 d refl in
    let here : sum_by f d.ports ≡ sum_by f e.ports + f p = ap (sum_by f) parts ∙ (sum_by_push f rest port ∙ ap₂' (ap (λ (x : DeskOf Port). sum_by f x.ports) (sym (same_some at_new))) (ap f (sym (same_some at_port)))) in
    let later = sum-taken f old new ports (record {
      desks_left = less t.desks_left;
      ports_taken = less t.ports_taken;
      each = λ k desk at. t.each (suc k) desk at;
    }) in
    let a = sum_by-cons (λ (x : DeskOf Port). sum_by f x.ports) d old in
    let b = sum_by-cons (λ (x : DeskOf Port). sum_by f x.ports) e new in
    let c = sum_by-cons f p ports in
    omega (arith, here, later, a, b, c)
  where
    less : {m n : ℕ} → suc m ≡ suc n → m ≡ n
    less e = omega (arith, e)

    ap₂' : {a b c d : ℕ} → a ≡ b → c ≡ d → a + c ≡ b + d
    ap₂' x y = omega (arith, x, y)

pub sum-of_map : {X : Type 0} (f : View → ℕ) (g : X → View) (xs : List X) → sum_by f (map g xs) ≡ sum_by (λ x. f (g x)) xs
sum-of_map f g [] = refl
sum-of_map f g (x ∷ xs) = sum_by-cons f (g x) (map g xs) ∙ (ap (λ n. f (g x) + n) (sum-of_map f g xs) ∙ sym (sum_by-cons (λ y. f (g y)) x xs))

module _ {Line Port : Type 0} (belongs : Line → Port → Type 0) (view : Port → View) (config_of : Line → LineConfig) where
  -- what is still to be settled
  pub record IsLeft (lines : List Line) (desks : List (DeskOf Port)) : Type 0 where
    pub over : (k : ℕ) (desk : DeskOf Port) → slice_get desks k ≡ Some desk → AreOver belongs lines desk.ports
    pub at_rest : (k : ℕ) (desk : DeskOf Port) (i : ℕ) (port : Port) → slice_get desks k ≡ Some desk → slice_get desk.ports i ≡ Some port → IsAtRest (view port)
    pub there : AreAllThere view config_of lines desks

  -- a line was popped, and the last port of each desk taken
  module _ (lines : List Line) (line : Line) (old new : List (DeskOf Port)) (ports : List Port) (left : IsLeft (lines ++ line ∷ []) old) (t : TakesLast old new ports) where
    line_at : slice_get (lines ++ line ∷ []) (length lines) ≡ Some line
    line_at = slice_get-push lines line

    more_lines : length (lines ++ line ∷ []) ≡ length lines + 1
    more_lines = length-append lines (line ∷ [])

    -- the desk of which this desk is the rest
    was : (k : ℕ) (desk : DeskOf Port) → slice_get new k ≡ Some desk → (before : DeskOf Port) × (port : Port) × (slice_get old k ≡ Some before) × (before.ports ≡ desk.ports ++ port ∷ []) × (length desk.ports ≡ length lines)
    was k desk at =
        let there = slice_get_within new k desk at in
        let many = t.desks_left in
        let (before, at_before) = element_at old k (omega (arith, there, many)) in
        let (rest, port, parts, at_new, at_port) = t.each k before at_before in
        let same : rest ≡ desk.ports = ap (λ (d : DeskOf Port). d.ports) (same_some (sym at_new ∙ at)) in
        let is : before.ports ≡ desk.ports ++ port ∷ [] = parts ∙ ap (λ l. l ++ port ∷ []) same in
        let long = ap length is ∙ length-append desk.ports (port ∷ []) in
        let count = (left.over k before at_before).count in
        (before, port, at_before, is, omega (arith, long, count, more_lines))

    kept_at : (k : ℕ) (desk before : DeskOf Port) (port : Port) → before.ports ≡ desk.ports ++ port ∷ [] → (i : ℕ) (p : Port) → slice_get desk.ports i ≡ Some p → slice_get before.ports i ≡ Some p
    kept_at k desk before port is i p at = ap (λ l. slice_get l i) is ∙ (slice_get-append_left desk.ports (port ∷ []) i (slice_get_within desk.ports i p at) ∙ at)

    pub left_then : IsLeft lines new
    left_then = record {
      over = λ k desk at.
          let (before, port, at_before, is, long) = was k desk at in
          record {
            count = long;
            each_belongs = λ i l p at_l at_p. (left.over k before at_before).each_belongs i l p (slice_get-append_left lines (line ∷ []) i (slice_get_within lines i l at_l) ∙ at_l) (kept_at k desk before port is i p at_p);
          };
      at_rest = λ k desk i p at at_p.
          let (before, port, at_before, is, long) = was k desk at in
          left.at_rest k before i p at_before (kept_at k desk before port is i p at_p);
      there = λ i l at node first last.
          let within = slice_get_within lines i l at in
          let h = left.there i l (slice_get-append_left lines (line ∷ []) i within ∙ at) node first last in
          let (rest, port, parts, at_new, at_port) = t.each h.place h.desk h.desk_at in
          let count = (left.over h.place h.desk h.desk_at).count in
          let long = sym (length-append rest (port ∷ [])) ∙ (ap length (sym parts) ∙ (count ∙ more_lines)) in
          let inside : i < length rest = omega (arith, long, within) in
          record {
            place = h.place;
            desk = record h.desk { ports = rest };
            port = h.port;
            desk_at = at_new;
            port_at = sym (slice_get-append_left rest (port ∷ []) i inside) ∙ (ap (λ l. slice_get l i) (sym parts) ∙ h.port_at);
            of_node = h.of_node;
          };
    }

    -- the port that was taken of a desk
    port_was : (k : ℕ) (port : Port) → slice_get ports k ≡ Some port → (desk : DeskOf Port) × (slice_get old k ≡ Some desk) × (slice_get desk.ports (length lines) ≡ Some port)
    port_was k port at =
        let within = slice_get_within ports k port at in
        let many = t.ports_taken in
        let (desk, at_desk) = element_at old k (omega (arith, within, many)) in
        let (rest, last, parts, at_new, at_port) = t.each k desk at_desk in
        let count = (left.over k desk at_desk).count in
        let long : length rest ≡ length lines = by (length rest) (sym (length-append rest (last ∷ [])) ∙ (ap length (sym parts) ∙ (count ∙ more_lines))) in
        let same : last ≡ port = same_some (sym at_port ∙ at) in
        (desk, at_desk, ap (λ l. slice_get l (length lines)) parts ∙ (ap (slice_get (rest ++ last ∷ [])) (sym long) ∙ (slice_get-push rest last ∙ ap Some same)))
      where
        by : (n : ℕ) → n + 1 ≡ length lines + 1 → n ≡ length lines
        by n e = omega (arith, e)

    pub taken_belongs : (k : ℕ) (port : Port) → slice_get ports k ≡ Some port → belongs line port
    taken_belongs k port at =
        let (desk, at_desk, at_port) = port_was k port at in
        (left.over k desk at_desk).each_belongs (length lines) line port line_at at_port

    pub taken_places : (k : ℕ) (v : View) → slice_get (map view ports) k ≡ Some v → KnowsOwnPlaces v
    taken_places k v at =
        let (i, port, at_port, is) = among_map_port view ports v (k, at) in
        let (desk, at_desk, at_place) = port_was i port at_port in
        subst (λ (w : View). KnowsOwnPlaces w) (sym is) (left.at_rest i desk (length lines) port at_desk at_place).places

-- what is left of all lines and desks: the first lines, and the first ports of each desk; the lines behind these are
-- settled
module _ {Line Port : Type 0} (belongs : Line → Port → Type 0) (view : Port → View) (label_of : Line → ℕ) (config_of : Line → LineConfig) (all_lines : List Line) (all_desks : List (DeskOf Port)) where
  pub record IsRest (lines : List Line) (desks : List (DeskOf Port)) : Type 0 where
    pub line_was : (i : ℕ) (line : Line) → slice_get lines i ≡ Some line → slice_get all_lines i ≡ Some line
    pub many : length desks ≡ length all_desks
    pub port_was : (k : ℕ) (desk was : DeskOf Port) (i : ℕ) (port : Port) → slice_get desks k ≡ Some desk → slice_get all_desks k ≡ Some was → slice_get desk.ports i ≡ Some port → slice_get was.ports i ≡ Some port
    pub gone : (i : ℕ) (line : Line) → length lines ≤ i → slice_get all_lines i ≡ Some line → IsSettled view label_of config_of all_lines all_desks i line

  pub rest_first : IsRest all_lines all_desks
  rest_first = record {
    line_was = λ i line at. at;
    many = refl;
    port_was = λ k desk was i port at at_was at_port. ap (λ (d : DeskOf Port). slice_get d.ports i) (same_some (sym at_was ∙ at)) ∙ at_port;
    gone = λ i line le at. absurd (let lt = slice_get_within all_lines i line at in omega (arith, le, lt));
  }

  -- one more line is settled, with the last port of each desk
  module _ (lines : List Line) (line : Line) (old new : List (DeskOf Port)) (ports : List Port) (left : IsLeft belongs view config_of (lines ++ line ∷ []) old) (t : TakesLast old new ports) (rest : IsRest (lines ++ line ∷ []) old) where
    taken_are : ArePortsOf all_desks (length lines) ports
    taken_are = record {
      len = t.ports_taken ∙ rest.many;
      each = λ k desk at.
          let within = slice_get_within all_desks k desk at in
          let few = t.ports_taken in
          let many = rest.many in
          let (port, at_port) = element_at ports k (omega (arith, within, few, many)) in
          let (was, at_was, at_place) = port_was belongs view config_of lines line old new ports left t k port at_port in
          at_port ∙ sym (rest.port_was k was desk (length lines) port at_was at at_place);
    }

    pub rest_then : (bytes : List ℕ) → IsFinished AreBalances StayBalances (label_of line) (config_of line) (map view ports) bytes → IsRest lines new
    rest_then bytes f = record {
      line_was = λ i l at. rest.line_was i l (slice_get-append_left lines (line ∷ []) i (slice_get_within lines i l at) ∙ at);
      many = t.desks_left ∙ rest.many;
      port_was = λ k desk desk_was i port at at_was at_port.
          let (before, last, at_before, is, long) = was belongs view config_of lines line old new ports left t k desk at in
          rest.port_was k before desk_was i port at_before at_was (kept_at belongs view config_of lines line old new ports left t k desk before last is i port at_port);
      gone = λ i l le at. elim (cases_eq i (length lines)) [
        | inl e ↦
            let same : line ≡ l = same_some (sym (rest.line_was (length lines) line (slice_get-push lines line)) ∙ (ap (slice_get all_lines) (sym e) ∙ at)) in
            subst (λ (x : Line). IsSettled view label_of config_of all_lines all_desks i x) same
            (subst (λ n. IsSettled view label_of config_of all_lines all_desks n line) (sym e) (record { ports = ports; are = taken_are; bytes = bytes; finished = f }))
        | inr ne ↦ rest.gone i l (let more = length-append lines (line ∷ []) in omega (arith, le, ne, more)) at
      ];
    }

  pub rest_last : (lines : List Line) (desks : List (DeskOf Port)) → lines ≡ [] → IsRest lines desks → AreSettled view label_of config_of all_lines all_desks
  rest_last lines desks none rest = λ i line at. rest.gone i line (let empty = ap length none in omega (arith, empty)) at

-- what is settled so far and what is left add up to the whole
abbrev pub AddsUp : {Line Port : Type 0} → (Port → View) → (Line → LineConfig) → List Line → List Line → List (DeskOf Port) → List (DeskOf Port) → ℕ → Type 0
AddsUp view config_of all_lines lines all_desks desks total =
    (total + sum_of_ports (λ port. drawn_by (view port)) all_desks) + (all_opened config_of lines + sum_of_ports (λ port. paid_by (view port)) desks)
    ≡ (all_opened config_of all_lines + sum_of_ports (λ port. paid_by (view port)) all_desks) + sum_of_ports (λ port. drawn_by (view port)) desks

abbrev pub IsBounded : ℕ → ℕ → ℕ → Type 0
IsBounded all left total = (total + left * (8 * MAX_BALANCE) ≤ all * (8 * MAX_BALANCE)) × (left ≤ all)

-- at first all is left
pub left_first : {Line Port : Type 0} (belongs : Line → Port → Type 0) (view : Port → View) (config_of : Line → LineConfig) (lines : List Line) (desks : List (DeskOf Port))
    → ((k : ℕ) (desk : DeskOf Port) → slice_get desks k ≡ Some desk → IsDeskOver belongs view lines desk)
    → AreAllThere view config_of lines desks → IsLeft belongs view config_of lines desks
left_first belongs view config_of lines desks over there = record {
  over = λ k desk at. (over k desk at).over;
  at_rest = λ k desk i port at at_port. (over k desk at).at_rest i port at_port;
  there = there;
}

pub adds_first : {Line Port : Type 0} (view : Port → View) (config_of : Line → LineConfig) (lines : List Line) (desks : List (DeskOf Port)) → AddsUp view config_of lines lines desks desks 0
adds_first view config_of lines desks = same (sum_of_ports (λ port. drawn_by (view port)) desks) (all_opened config_of lines) (sum_of_ports (λ port. paid_by (view port)) desks)
  where
    same : (d o p : ℕ) → (0 + d) + (o + p) ≡ (o + p) + d
    same d o p = omega arith

pub bounded_first : (n : ℕ) → IsBounded n n 0
bounded_first n = (omega arith, omega arith)

-- a property of the value of a result that is fine
pub finished_with : {T E : Type 0} (P : T → Type 0) (r : Result T E) (x : T) → result_ok r ≡ Some x → IfOk r P → P x
finished_with P (Ok y) x e h = subst P (same_some e) h
finished_with P (Err y) x e h = absurd (let f : None ≡ Some x = e in cc f)

-- a push that went well
pub pushed_well : {T E X : Type 0} (r : Result T E) (x : T) (new more same : List X) → result_ok r ≡ Some x → new ≡ (if is_ok r then more else same) → new ≡ more
pushed_well (Ok y) x new more same e is = is
pushed_well (Err y) x new more same e is = absurd (let f : None ≡ Some x = e in cc f)

-- a property of the value of an option that is none
pub none_has : {T : Type 0} (P : T → Type 0) (o : Option T) → o ≡ None → IfSome o P
none_has P None e = tt
none_has P (Some x) e = absurd (let f : Some x ≡ None = e in cc f)

-- a total is of eight balances
total_bounded : (line : List ℕ) → AreBalances line → lanes_total line ≤ 8 * MAX_BALANCE
total_bounded line all = subst (λ n. n ≤ 8 * MAX_BALANCE) (sym (sum-map (lane_of line) (range_with_len 0 8))) (sum_by-le (lane_of line) MAX_BALANCE (range_with_len 0 8) each)
  where
    each : (k d : ℕ) → k < 8 → lane_of line (get_or (range_with_len 0 8) k d) ≤ MAX_BALANCE
    each k d lt = subst (λ n. lane_of line n ≤ MAX_BALANCE) (sym (get_or-range_with_len 0 8 k d lt ∙ zero-add k)) (all k lt)

pub fits_total : (all left total : ℕ) (line : List ℕ) → IsBounded all (left + 1) total → AreBalances line → all < 2 ^ 64 → total + lanes_total line < 2 ^ 128
fits_total all left total line b good small = sum (lanes_total line) (total_bounded line good)
  where
    sum : (n : ℕ) → n ≤ 8 * MAX_BALANCE → total + n < 2 ^ 128
    sum n le = omega (arith, b.0, b.1, le, small)

pub bounded_then : (all left total : ℕ) (line : List ℕ) → IsBounded all (left + 1) total → AreBalances line → IsBounded all left (total + lanes_total line)
bounded_then all left total line b good = sum (lanes_total line) (total_bounded line good)
  where
    sum : (n : ℕ) → n ≤ 8 * MAX_BALANCE → IsBounded all left (total + n)
    sum n le = (omega (arith, b.0, b.1, le), omega (arith, b.1))

-- a line was finished with the ports that were taken
pub adds_then : {Line Port : Type 0} (belongs : Line → Port → Type 0) (view : Port → View) (config_of : Line → LineConfig) (all_lines lines : List Line) (line : Line) (all_desks old new : List (DeskOf Port)) (ports : List Port) (label total : ℕ) (bytes : List ℕ)
    → IsLeft belongs view config_of (lines ++ line ∷ []) old → TakesLast old new ports → IsFinished AreBalances StayBalances label (config_of line) (map view ports) bytes
    → AddsUp view config_of all_lines (lines ++ line ∷ []) all_desks old total → AddsUp view config_of all_lines lines all_desks new (total + lanes_total bytes)
adds_then belongs view config_of all_lines lines line all_desks old new ports label total bytes left t f adds =
    let e = finished_total AreBalances StayBalances label (config_of line) (map view ports) bytes f (taken_places belongs view config_of lines line old new ports left t) in
    let drawn = sum-taken (λ port. drawn_by (view port)) old new ports t in
    let paid = sum-taken (λ port. paid_by (view port)) old new ports t in
    let opened = sum_by_push (λ l. lanes_total (config_of l).opening.bytes) lines line in
    let drawn_map = sum-of_map drawn_by view ports in
    let paid_map = sum-of_map paid_by view ports in
    sums total _ _ _ _ _ _ _ _ _ _ _ _ _ (ap (λ n. lanes_total bytes + n) (sym drawn_map) ∙ (e ∙ ap (λ n. lanes_total (config_of line).opening.bytes + n) paid_map)) drawn paid opened adds
  where
    sums : (total b dc o pc d_old d_new p_old p_new o_old o_new d_all o_all p_all : ℕ) → b + dc ≡ o + pc → d_old ≡ d_new + dc → p_old ≡ p_new + pc → o_old ≡ o_new + o
        → (total + d_all) + (o_old + p_old) ≡ (o_all + p_all) + d_old → ((total + b) + d_all) + (o_new + p_new) ≡ (o_all + p_all) + d_new
    sums total b dc o pc d_old d_new p_old p_new o_old o_new d_all o_all p_all e1 e2 e3 e4 e5 = omega (arith, e1, e2, e3, e4, e5)

-- at last nothing is left
pub adds_last : {Line Port : Type 0} (belongs : Line → Port → Type 0) (view : Port → View) (config_of : Line → LineConfig) (all_lines lines : List Line) (all_desks desks : List (DeskOf Port)) (total : ℕ)
    → lines ≡ [] → IsLeft belongs view config_of lines desks → AddsUp view config_of all_lines lines all_desks desks total
    → ((k : ℕ) (desk : DeskOf Port) → slice_get all_desks k ≡ Some desk → IsDeskOver belongs view all_lines desk)
    → total + all_paid_out all_desks ≡ all_opened config_of all_lines + all_paid_in all_desks
adds_last {Line} {Port} belongs view config_of all_lines lines all_desks desks total empty left adds over =
    let paid = gone (λ port. paid_by (view port)) in
    let drawn = gone (λ port. drawn_by (view port)) in
    let opened : all_opened config_of lines ≡ 0 = ap (all_opened config_of) empty in
    let whole = sum-each (λ (d : DeskOf Port). sum_by (λ port. paid_by (view port)) d.ports + d.paid_out) (λ (d : DeskOf Port). sum_by (λ port. drawn_by (view port)) d.ports + d.paid_in) all_desks (λ k desk at. (over k desk at).paid) in
    let a = sum-plus (λ (d : DeskOf Port). sum_by (λ port. paid_by (view port)) d.ports) (λ (d : DeskOf Port). d.paid_out) all_desks in
    let b = sum-plus (λ (d : DeskOf Port). sum_by (λ port. drawn_by (view port)) d.ports) (λ (d : DeskOf Port). d.paid_in) all_desks in
    sums total _ _ _ _ _ _ _ _ adds paid drawn opened (sym a ∙ (whole ∙ b))
  where
    none_left : (k : ℕ) (desk : DeskOf Port) → slice_get desks k ≡ Some desk → length desk.ports ≡ 0
    none_left k desk at = (left.over k desk at).count ∙ ap length empty

    no_sum : (f : Port → ℕ) (ports : List Port) → length ports ≡ 0 → sum_by f ports ≡ 0
    no_sum f [] e = refl
    no_sum f (p ∷ ports) e = absurd (omega (arith, e))

    gone : (f : Port → ℕ) → sum_of_ports f desks ≡ 0
    gone f = sum-none (λ (d : DeskOf Port). sum_by f d.ports) desks (λ k desk at. no_sum f desk.ports (none_left k desk at))

    sums : (total d_all o p o_all p_all d out paid_in : ℕ) → (total + d_all) + (o + p) ≡ (o_all + p_all) + d → p ≡ 0 → d ≡ 0 → o ≡ 0 → p_all + out ≡ d_all + paid_in → total + out ≡ o_all + paid_in
    sums total d_all o p o_all p_all d out paid_in e1 e2 e3 e4 e5 = omega (arith, e1, e2, e3, e4, e5)

-- if a line is left, each desk has a port
pub some_left : {Line Port : Type 0} (belongs : Line → Port → Type 0) (view : Port → View) (config_of : Line → LineConfig) (lines : List Line) (line : Line) (desks : List (DeskOf Port))
    → IsLeft belongs view config_of (lines ++ line ∷ []) desks → (k : ℕ) (desk : DeskOf Port) → slice_get desks k ≡ Some desk → 0 < length desk.ports
some_left belongs view config_of lines line desks left k desk at = omega (arith, (left.over k desk at).count, length-append lines (line ∷ []))

pub nothing_left : {X : Type 0} (xs : List X) → length xs ≡ 0 → xs ≡ []
nothing_left [] e = refl
nothing_left (x ∷ xs) e = absurd (omega (arith, e))
