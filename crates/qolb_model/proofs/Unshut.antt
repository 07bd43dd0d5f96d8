-- Lemmas about a line that none of its ports has shut.
use Rattle.std.proofs.Common.{◌≡◌, ℕ, suc, ◌+◌, ◌≤◌, Bool, true, false, ◌||◌, List, [], ◌∷◌, take, drop, replicate, Option, Some, None, slice_get, refl, ap, sym, ◌∙◌, subst, arith}
use Rattle.std.proofs.lemmas.Bool.{eqb-true}
use Rattle.std.proofs.lemmas.List.{take-append-le, take-append-drop}
use Rattle.std.proofs.lemmas.Option.{slice_get_within}
use Rattle.qolb_model.specs.declared.request.Request.{Request}
use Rattle.qolb_model.specs.declared.end.End.{End}
use Rattle.qolb_model.specs.declared.end.End.TheVariants.{Served, Gone, Told}
use Rattle.qolb_model.specs.declared.config.LineConfig.{LineConfig}
use Rattle.qolb_model.specs.declared.view.View.{View}
use Rattle.qolb_model.specs.declared.write.Write.{Write}
use Rattle.qolb_model.specs.Ends.{is_closed}
use Rattle.qolb_model.specs.Leases.{served, is_last_turn, IsLease}
use Rattle.qolb_model.specs.Histories.{IsLegal}
use Rattle.qolb_model.specs.OneHistory.{IsAmong}
use Rattle.qolb_model.specs.Finishing.{IsFinished}
use Rattle.qolb_model.specs.Releasing.{IsTold}
use Rattle.qolb_model.specs.Sums.{KnowsOwnPlaces, HasNotShut}
use Rattle.qolb_model.proofs.Lists.{same_some, element_at, take_with}
use Rattle.qolb_model.proofs.Prefixes.{prefix_get}
use Rattle.qolb_model.proofs.Histories.{is_closed-append}
use Rattle.qolb_model.proofs.Leases.{served-append, lease_bounds}
use Rattle.qolb_model.proofs.Sums.{own_place}

-- if ends closed the line, one of them did
closed_at : (ends : List End) → is_closed ends ≡ true → (p : ℕ) × (write : Write) × (slice_get ends p ≡ Some (Served write true))
closed_at [] h = absurd (let no : false ≡ true = h in cc no)
closed_at (Served write true ∷ ends) h = (0, write, refl)
closed_at (Served write false ∷ ends) h = let more = closed_at ends h in (suc more.0, more.1, more.2)
closed_at (Gone ∷ ends) h = let more = closed_at ends h in (suc more.0, more.1, more.2)
closed_at (Told ∷ ends) h = let more = closed_at ends h in (suc more.0, more.1, more.2)

-- a service at the last turn of a lease uses it up
all_served : (lease : Option ℕ) (order : List Request) (ends : List End) → IsLease lease → IsLegal lease order ends → (p : ℕ) (write : Write) (shut : Bool) → slice_get ends p ≡ Some (Served write shut)
    → is_last_turn lease (take p ends) ≡ true → lease ≡ Some (served ends)
all_served None order ends some legal p write shut at last = absurd (let no : false ≡ true = last in cc no)
all_served (Some turns) order ends some legal p write shut at last =
    let most = (lease_bounds turns order ends some legal).0 in
    let here : served (take (suc p) ends) ≡ served (take p ends) + 1 = ap served (take_with ends p (Served write shut) at) ∙ served-append (take p ends) (Served write shut ∷ []) in
    let all : served (take (suc p) ends) + served (drop (suc p) ends) ≡ served ends = sym (served-append (take (suc p) ends) (drop (suc p) ends)) ∙ ap served (take-append-drop (suc p) ends) in
    let full : served (take p ends) + 1 ≡ turns = eqb-true (served (take p ends) + 1) turns last in
    let e : turns ≡ served ends = omega (arith, most, here, all, full) in
    ap Some e

module _ (good : List ℕ → Type 0) (allows : List ℕ → List ℕ → Type 0) where
  -- if no port of a finished line has shut it, only its lease can have closed it
  pub closed_by_lease : (label : ℕ) (config : LineConfig) (views : List View) (bytes : List ℕ) (finished : IsFinished good allows label config views bytes)
      → ((v : View) → IsAmong views v → KnowsOwnPlaces v) → ((v : View) → IsAmong views v → HasNotShut v) → is_closed finished.history.ends ≡ true → config.lease ≡ Some (served finished.history.ends)
  closed_by_lease label config views bytes f places unshut closed =
      let h = f.history in
      let (p, write, at) = closed_at h.ends closed in
      let within = slice_get_within h.ends p (Served write true) at in
      let (r, at_r) = element_at h.order p (omega (arith, within, f.all_ended)) in
      let (u, among_u, is_u) = f.there 1 (omega arith) f.may_open.nodes.some in
      let of_line = (h.known u among_u).of_line p r at_r in
      let (v, among, is) = f.there r.node of_line.0 (subst (λ (t : LineConfig). r.node ≤ t.nodes) f.config_is of_line.1) in
      let knows = h.known v among in
      let end = knows.own_ends p r (Served write true) at_r at (sym is) refl in
      let place = own_place v.node v.order h.order knows.order_begins (places v among ∙ sym knows.own_count) p r at_r (sym is) in
      let (x, at_x) = element_at v.order p place in
      let same : x ≡ r = same_some (sym (prefix_get v.order h.order p x knows.order_begins at_x) ∙ at_r) in
      let lt = slice_get_within v.ends p (Served write true) end in
      let cut : take p h.ends ≡ take p v.ends = ap (take p) (sym knows.ends_begin.1) ∙ take-append-le p v.ends knows.ends_begin.0 (omega (arith, lt)) in
      let config_is : v.config ≡ config = knows.config_is ∙ f.config_is in
      let last : true ≡ is_last_turn v.config.lease (take p v.ends) = unshut v among p x write true at_x (ap (λ (y : Request). y.node) same ∙ sym is) end in
      let legal = subst (λ (t : LineConfig). IsLegal t.lease h.order h.ends) f.config_is h.legal in
      all_served config.lease h.order h.ends f.may_open.lease legal p write true at (sym (last ∙ (ap (λ (t : LineConfig). is_last_turn t.lease (take p v.ends)) config_is ∙ ap (is_last_turn config.lease) (sym cut))))

  -- without a lease, none of the requests is therefore told that the line is closed
  pub untold : (label : ℕ) (config : LineConfig) (views : List View) (bytes : List ℕ) → IsFinished good allows label config views bytes → ((v : View) → IsAmong views v → KnowsOwnPlaces v)
      → ((v : View) → IsAmong views v → HasNotShut v) → config.lease ≡ None → (v : View) → IsAmong views v → IsTold v → ⊥
  untold label config views bytes f places unshut none v among told =
      let h = f.history in
      let begins = (h.known v among).ends_begin in
      let closed : is_closed h.ends ≡ true =
      ap is_closed (sym begins.1)
      ∙ (is_closed-append v.ends begins.0
      ∙ ap (λ b. b || is_closed begins.0) (ap is_closed told.ends ∙ (is_closed-append told.before (Told ∷ replicate told.passed Gone) ∙ ap (λ b. b || is_closed (Told ∷ replicate told.passed Gone)) told.closed))) in
      let no : None ≡ Some (served h.ends) = sym none ∙ closed_by_lease label config views bytes f places unshut closed in
      cc no
