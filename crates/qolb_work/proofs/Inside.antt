-- Proof that a guarantee about work on a wrapper of a line, such as `ParkOnPoll`, also holds for the wrapped line.
use Rattle.std.proofs.Common.{◌≡◌, ℕ, zero, suc, ◌+◌, ◌<◌, List, [], ◌∷◌, All, Vec, map, length, get_or, option_map, slice_get, Result, Ok, Err, IfOk, sym, subst, ap, ◌∙◌, refl, arith}
use Rattle.std.specs.Global.{Global}
use Rattle.std.proofs.lemmas.List.{length-map}
use Rattle.std.proofs.lemmas.List.Elements.{All-map, All-weaker}
use Rattle.std.proofs.lemmas.Option.{slice_get-map}
use Rattle.qolb_work.proofs.Gathering.{come_from}
use Rattle.qolb_model.specs.declared.config.LineConfig.{LineConfig}
use Rattle.qolb_model.specs.declared.view.View.{View}
use Rattle.line_accounts.specs.Desks.{DeskOf, AreOver}
use Rattle.qolb_script.specs.declared.job.Job.{Job}
use Rattle.qolb_script.specs.declared.report.Report.{Report}
use Rattle.qolb_script.specs.declared.report.Report.TheVariants.{Board, Bank}
use Rattle.qolb_script.specs.WorkScript.{WorkScript}
use Rattle.qolb_work.specs.declared.work.RunError.{RunError}
use Rattle.qolb_work.specs.JustOpened.{IsNewLine, work_config}
use Rattle.qolb_work.specs.BoardWork.{IsBoardedOver}
use Rattle.qolb_work.specs.BankWork.{HasBanked, Makes, IsBankedOver}

-- An element of a mapped list is the image of the element at the same place.
mapped_at : {A B : Type 0} (f : A → B) (xs : List A) (k : ℕ) (d : A) → k < length xs → get_or (map f xs) k (f d) ≡ f (get_or xs k d)
mapped_at f [] k d lt = absurd (omega (arith, lt))
mapped_at f (x ∷ xs) zero d lt = refl
mapped_at f (x ∷ xs) (suc k) d lt = mapped_at f xs k d (omega (arith, lt))

pub all_of_mapped : {A B : Type 0} (P : B → Type 0) (f : A → B) (xs : List A) (ys : List B) → map f xs ≡ ys → All P ys → All (λ x. P (f x)) xs
all_of_mapped P f xs ys is all = λ k d lt.
    let long = ap length is in
    let same = length-map xs f in
    subst P (mapped_at f xs k d lt) (subst (λ ys. P (get_or ys k (f d))) (sym is) (all k (f d) (omega (arith, lt, long, same))))

module _ {Line Outer Port : Type 0} (belongs : Line → Port → Type 0) (view : Port → View) (config_of : Line → LineConfig) (inner : Outer → Line) where
  -- If the inner line was just opened, its wrapper was just opened, too.
  pub new_outside : (workers : ℕ) (outer : Outer) (ports : List Port) → IsNewLine belongs view config_of workers (inner outer) ports → IsNewLine (λ outer port. belongs (inner outer) port) view (λ outer. config_of (inner outer)) workers outer ports
  new_outside workers outer ports new = record { own = new.own; config = new.config }

  pub new_all_outside : (workers : ℕ) (all : List (Outer × Vec Port Global)) (opened : List (Line × Vec Port Global)) → map (λ outer. (inner outer.0, outer.1)) all ≡ opened
      → All (λ line. IsNewLine belongs view config_of workers line.0 line.1.items) opened
      → All (λ outer. IsNewLine (λ outer port. belongs (inner outer) port) view (λ outer. config_of (inner outer)) workers outer.0 outer.1.items) all
  new_all_outside workers all opened are new =
      let NewInside : Outer × Vec Port Global → Type 0 = λ outer. IsNewLine belongs view config_of workers (inner outer.0) outer.1.items in
      let New : Outer × Vec Port Global → Type 0 = λ outer. IsNewLine (λ outer port. belongs (inner outer) port) view (λ outer. config_of (inner outer)) workers outer.0 outer.1.items in
      All-weaker NewInside New (λ outer is. new_outside workers outer.0 outer.1.items is) all
      (all_of_mapped (λ line. IsNewLine belongs view config_of workers line.0 line.1.items) (λ outer. (inner outer.0, outer.1)) all opened are new)

  boarded_inside : (work : WorkScript) (report : Report) → IsBoardedOver (λ outer port. belongs (inner outer) port) view (λ outer. config_of (inner outer)) work report → IsBoardedOver belongs view config_of work report
  boarded_inside work (Board stored full taken empty left) boarded = record {
    line = inner boarded.line;
    hands = boarded.hands;
    opened = boarded.opened;
    each = boarded.each;
    done = λ k hand at. let done = boarded.done k hand at in record {
      of_line = done.of_line;
      of_worker = done.of_worker;
      at_rest = done.at_rest;
      unshut = done.unshut;
      did = done.did;
      counts_are = done.counts_are;
    };
    sums = boarded.sums;
  }
  boarded_inside work (Bank paid_in paid_out total) boarded = boarded

  pub boarded_if_inside : (work : WorkScript) (found : Result Report RunError) → IfOk found (IsBoardedOver (λ outer port. belongs (inner outer) port) view (λ outer. config_of (inner outer)) work) → IfOk found (IsBoardedOver belongs view config_of work)
  boarded_if_inside work (Ok report) boarded = boarded_inside work report boarded
  boarded_if_inside work (Err error) boarded = boarded

  over_inside : (lines : List Outer) (ports : List Port) → AreOver (λ outer port. belongs (inner outer) port) lines ports → AreOver belongs (map inner lines) ports
  over_inside lines ports over = record {
    count = over.count ∙ sym (length-map lines inner);
    each_belongs = λ i line port at of.
        let from = come_from inner (slice_get lines i) line (sym (slice_get-map inner lines i) ∙ at) in
        subst (λ line. belongs line port) from.2 (over.each_belongs i from.0 port from.1 of);
  }

  banked_here : (lines : List Outer) (worker : ℕ) (desk : DeskOf Port) (jobs : List Job) → HasBanked (λ outer port. belongs (inner outer) port) view (λ outer. config_of (inner outer)) lines worker desk jobs → HasBanked belongs view config_of (map inner lines) worker desk jobs
  banked_here lines worker desk jobs banked = record {
    over = record {
      over = over_inside lines desk.ports banked.over.over;
      at_rest = banked.over.at_rest;
      paid = banked.over.paid;
    };
    of_worker = banked.of_worker;
    unshut = banked.unshut;
    fresh = banked.fresh;
    unpaid = banked.unpaid;
    opened = λ i port at.
        let (line, at_line, is) = banked.opened i port at in
        (inner line, slice_get-map inner lines i ∙ ap (option_map inner) at_line, is);
    amounts = banked.amounts;
    replies = banked.replies;
    len = banked.len;
    made = subst (λ n. Makes view n banked.fresh jobs banked.replies desk) (sym (length-map lines inner)) banked.made;
    paid_in = banked.paid_in;
    paid_out = banked.paid_out;
    small = banked.small;
  }

  banked_inside : (work : WorkScript) (report : Report) → IsBankedOver (λ outer port. belongs (inner outer) port) view (λ outer. config_of (inner outer)) work report → IsBankedOver belongs view config_of work report
  banked_inside work (Board stored full taken empty left) banked = banked
  banked_inside work (Bank paid_in paid_out total) banked = record {
    lines = map inner banked.lines;
    desks = banked.desks;
    count = length-map banked.lines inner ∙ banked.count;
    opened = All-map (λ line. config_of line ≡ work_config work.workers) inner banked.lines banked.opened;
    each = banked.each;
    done = λ k desk at. banked_here banked.lines (k + 1) desk _ (banked.done k desk at);
    in_is = banked.in_is;
    out_is = banked.out_is;
  }

  pub banked_if_inside : (work : WorkScript) (found : Result Report RunError) → IfOk found (IsBankedOver (λ outer port. belongs (inner outer) port) view (λ outer. config_of (inner outer)) work) → IfOk found (IsBankedOver belongs view config_of work)
  banked_if_inside work (Ok report) banked = banked_inside work report banked
  banked_if_inside work (Err error) banked = banked
