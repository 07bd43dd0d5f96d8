-- Proof about `exchange`: the call swaps what its two arguments own in the proofs, and changes no byte of either.
use Rattle.atomic_table.proofs.Names.{◌≡◌, ℕ, List, [], ◌∷◌, refl, named, Val, vunit, vptr, SProp, emp, ftrue, fsep, flft, ‵, raw, ◌⊛◌, ◌$◌, ◌∵◌, !, qed, by, move, keep, split, join, fsplit, fsplit3, fjoin, fjoin3, use0, feq_i, unit_lit, of_opd, returns, enter, alloc_all, pass_all, free_all, look_at, sets, tables, RattleType, owns, types_at, plain, nothing, Stays, walk_of, fact, fact_i, mut_vals, mut_Tells, opens, closes, stay_ref, Goes-ref}
use Rattle.atomic_table.proofs.Walks.{proved, leaves}
use Rattle.atomic_table.specs.contracts.badge.Badge as badge
use Rattle.lock_core.specs.contracts.view.View as View
use Rattle.qolb_locks.specs.contracts.claim.Claim as Claim
use Rattle.qolb_locks.specs.contracts.claim.Claim.exchange.{ended, clauses}
use Rattle.qolb_locks.specs.contracts.claim.Claim.exchange.Key.{name as #self}
use Rattle.qolb_locks.proofs.claim.Claim.exchange.Statement.{statement}
use Rattle.qolb_locks.proofs.claim.Claim.exchange.Code as code

pub exchange_spec : {M : Type 1} → statement M
exchange_spec 𝓤 𝓛 𝓜 𝓡 wired =
    let H = 𝓛.H in let 𝓣 = tables 𝓤 H 𝓜 𝓡 𝓡.env in let En = ended in let c = clauses 𝓛 𝓜.mem 𝓡.returns in let fn = code.function in
    let T : RattleType = Claim.the_row in let B : RattleType = badge.the_row View.the_row in
    let hs : Stays En.signature.params En.kept = (stay_ref (0 ∷ []) tt (plain (λ _. T)), (stay_ref (1 ∷ []) tt (plain (λ _. B)), tt)) in
    proved 𝓛 En hs c 𝓜 𝓡 (Goes-ref 𝓛 2 0 tt (plain (λ _. T)), (Goes-ref 𝓛 2 1 tt (plain (λ _. B)), tt)) #self fn (code.unfolded 𝓤 H 𝓜 𝓡 wired)
    (λ κs. (mut_vals, (mut_vals, tt))) (λ κs. (mut_Tells (named 0) κs.0 T, (mut_Tells (named 1) κs.1.0 B, tt))) (λ κs qs bounds a gh are.
    let b : ℕ = a.0.ref_ptr.0 in let o : ℕ = a.0.ref_ptr.1 in let b' : ℕ = a.1.0.ref_ptr.0 in let o' : ℕ = a.1.0.ref_ptr.1 in let t : T.Denot = a.0.now in let g : B.Denot = a.1.0.now in
    let t' : T.Denot = record { mark = t.mark; table_id = g.table_id; id = g.id; views = g.views } in
    let g' : B.Denot = record { marker = g.marker; table_id = t.table_id; id = t.id; views = t.views } in
    let Told : Type 0 = (t'.table_id ≡ g.table_id) × (t'.id ≡ g.id) × (t'.views ≡ g.views) × (g'.table_id ≡ t.table_id) × (g'.id ≡ t.id) × (g'.views ≡ t.views) in
    let y : (walk_of 𝓛 En hs c).Ghost = ((κs, qs, bounds, a, (vptr b o ∷ [], (vptr b' o' ∷ [], tt))), gh) in let Post : Val → SProp 𝓤 = (walk_of 𝓛 En hs c).post y in
    qed 𝓛 (((‵ (flft κs.0 qs.0) ⊛ ‵ (fsep (flft κs.1.0 qs.1.0) ftrue)) ⊛ ‵ (owns (types_at En.signature.params κs) a y.0.4)) ∷ raw ((c κs a).requires gh) ∷ []) ∵
    split ! $ split ! $ move ! (2 ∷ []) $ fsplit ! $ fsplit3 ! $ move ! (3 ∷ []) $ fsplit ! $ fsplit3 ! $ keep ! (8 ∷ 5 ∷ 6 ∷ 7 ∷ 1 ∷ 2 ∷ []) $ fsplit ! $ keep ! (2 ∷ 3 ∷ 4 ∷ 5 ∷ 6 ∷ 0 ∷ 1 ∷ []) $
    enter ! 𝓣.C 𝓣.Λ fn (vptr b o ∷ vptr b' o' ∷ []) Post $ alloc_all ! (λ l. pass_all ! refl ((tt, tt), ((tt, tt), tt)) $
    opens ! tt T b o (λ ts. move ! (1 ∷ []) $ fsplit ! $ move ! (6 ∷ 7 ∷ 8 ∷ []) $
    opens ! tt B b' o' (λ us. move ! (1 ∷ []) $ fsplit ! $ move ! (0 ∷ 7 ∷ []) $ fjoin ! $ move ! (2 ∷ 0 ∷ 3 ∷ 4 ∷ 5 ∷ []) $ closes ! tt B g' us b' o' $
    move ! (4 ∷ 3 ∷ []) $ fjoin ! $ move ! (4 ∷ 0 ∷ 5 ∷ 6 ∷ 7 ∷ []) $ closes ! tt T t' ts b o $
    feq_i ! (List Val) (vptr b o ∷ []) (vptr b o ∷ []) refl $ fjoin3 ! $ move ! (2 ∷ 3 ∷ []) $ feq_i ! (List Val) (vptr b' o' ∷ []) (vptr b' o' ∷ []) refl $ fjoin3 ! $
    nothing ! $ move ! (1 ∷ 0 ∷ []) $ fjoin ! $ move ! (1 ∷ 0 ∷ []) $ fjoin ! $ move ! (2 ∷ 3 ∷ []) $ fjoin ! $ move ! (2 ∷ 0 ∷ []) $ join ! $
    sets ! (of_opd ! (unit_lit !)) refl (tt, tt) $ use0 𝓛 (raw (fact 𝓤 Told)) (fact_i 𝓤 Told (emp 𝓤) (refl, refl, refl, refl, refl, refl)) $ feq_i ! (List Val) (vunit ∷ []) (vunit ∷ []) refl $
    returns ! (look_at ! 0 refl) $ free_all ! refl $ keep ! (2 ∷ 3 ∷ 0 ∷ 1 ∷ []) $ by ! (leaves 𝓛 En hs c y vunit tt (t', (g', tt)) (tt, (tt, tt)))))))
