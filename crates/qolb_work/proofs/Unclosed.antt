-- Proof that no worker of a bank is told that a line is closed, because no worker has closed a line.
use Rattle.std.proofs.Common.{◌≡◌, ℕ, ◌+◌, List, map, All, option_map, Some, slice_get, ap, sym, ◌∙◌, subst, arith}
use Rattle.std.proofs.lemmas.Option.{slice_get_within, slice_get-map, get_or_from_slice_get}
use Rattle.qolb_model.specs.declared.config.LineConfig.{LineConfig}
use Rattle.qolb_model.specs.declared.view.View.{View}
use Rattle.qolb_model.specs.OneHistory.{IsAmong}
use Rattle.qolb_model.specs.Sums.{KnowsOwnPlaces, HasNotShut}
use Rattle.qolb_model.proofs.Lists.{element_at}
use Rattle.qolb_model.proofs.Agreeing.{among_map_port}
use Rattle.qolb_model.proofs.Unshut.{untold}
use Rattle.line_accounts.specs.Accounts.{AreBalances, StayBalances}
use Rattle.line_accounts.specs.Desks.{DeskOf}
use Rattle.line_accounts.specs.Settled.{IsSettled, AreSettled}
use Rattle.qolb_script.specs.declared.job.Job.{Job}
use Rattle.qolb_work.specs.JustOpened.{work_config}
use Rattle.qolb_work.specs.Workers.{AreDone, HasEnded}
use Rattle.qolb_work.specs.BankWork.{HasBanked, WasTold}
use Rattle.qolb_work.proofs.Gathering.{done_if_untold}
use Rattle.qolb_work.proofs.Banking.{IsHere}

module _ {Line Port : Type 0} (belongs : Line → Port → Type 0) (view : Port → View) (label_of : Line → ℕ) (config_of : Line → LineConfig) (lines : List Line) (desks : List (DeskOf Port))
    (here : (k : ℕ) (desk : DeskOf Port) → slice_get desks k ≡ Some desk → IsHere belongs view lines (k + 1) desk) where
  -- The view of a desk's port is one of the views with which the port's line was finished.
  pub view_at : (i : ℕ) (line : Line) (s : IsSettled view label_of config_of lines desks i line) (k : ℕ) (desk : DeskOf Port) (port : Port) → slice_get desks k ≡ Some desk → slice_get desk.ports i ≡ Some port → slice_get (map view s.ports) k ≡ Some (view port)
  view_at i line s k desk port at at_port = slice_get-map view s.ports k ∙ ap (option_map view) (s.are.each k desk at ∙ at_port)

  module _ (i : ℕ) (line : Line) (s : IsSettled view label_of config_of lines desks i line) where
    -- Each of these views is the view of some desk's port.
    port_of : (v : View) → IsAmong (map view s.ports) v → (k : ℕ) × (desk : DeskOf Port) × (port : Port) × (slice_get desks k ≡ Some desk) × (slice_get desk.ports i ≡ Some port) × (v ≡ view port)
    port_of v among =
        let (k, port, at_port, is) = among_map_port view s.ports v among in
        let within = slice_get_within s.ports k port at_port in
        let many = s.are.len in
        let (desk, at) = element_at desks k (omega (arith, within, many)) in
        (k, desk, port, at, sym (s.are.each k desk at) ∙ at_port, is)

    pub places_known : (v : View) → IsAmong (map view s.ports) v → KnowsOwnPlaces v
    places_known v among =
        let (k, desk, port, at, at_port, is) = port_of v among in
        subst (λ (w : View). KnowsOwnPlaces w) (sym is) ((here k desk at).over.at_rest i port at_port).places

    unshut_all : (v : View) → IsAmong (map view s.ports) v → HasNotShut v
    unshut_all v among =
        let (k, desk, port, at, at_port, is) = port_of v among in
        subst (λ (w : View). HasNotShut w) (sym is) ((here k desk at).unshut i port at_port)

  module _ (workers : ℕ) (config : All (λ line. config_of line ≡ work_config workers) lines) (settled : AreSettled view label_of config_of lines desks) where
    -- Each line was opened for this work.
    pub config_at : (i : ℕ) (line : Line) → slice_get lines i ≡ Some line → config_of line ≡ work_config workers
    config_at i line at = subst (λ (l : Line). config_of l ≡ work_config workers) (get_or_from_slice_get lines i line line at) (config i line (slice_get_within lines i line at))

    -- finds the line to which a desk's port belongs
    pub line_at : (k : ℕ) (desk : DeskOf Port) → slice_get desks k ≡ Some desk → (i : ℕ) (port : Port) → slice_get desk.ports i ≡ Some port → (line : Line) × (slice_get lines i ≡ Some line)
    line_at k desk at i port at_port =
        let within = slice_get_within desk.ports i port at_port in
        let count = (here k desk at).over.over.count in
        element_at lines i (omega (arith, within, count))

    none_told : (k : ℕ) (desk : DeskOf Port) → slice_get desks k ≡ Some desk → WasTold belongs view lines (k + 1) desk → ⊥
    none_told k desk at told =
        let (line, at_line) = line_at k desk at told.place told.port told.at in
        let s = settled told.place line at_line in
        untold AreBalances StayBalances (label_of line) (config_of line) (map view s.ports) s.bytes s.finished (places_known told.place line s) (unshut_all told.place line s)
        (ap (λ (t : LineConfig). t.lease) (config_at told.place line at_line)) (view told.port) (k, view_at told.place line s k desk told.port at told.at) told.told

    -- If all lines are finished, all workers have done their jobs.
    pub all_done : (jobs : List Job) → AreDone (HasEnded (HasBanked belongs view config_of) (WasTold belongs view)) lines jobs desks → AreDone (HasBanked belongs view config_of) lines jobs desks
    all_done jobs ended = done_if_untold (HasBanked belongs view config_of) (WasTold belongs view) lines jobs desks none_told ended
