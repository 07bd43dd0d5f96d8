-- Proof that the `LockRef` which `of` returns refers to the given lock, for which `of` requires a `&'static` reference.
use Rattle.std.proofs.Common.{◌≡◌, ℕ, [], ◌∷◌, refl}
use mir.Syntax.{static}
use mir.Val.{Val, vptr}
use base.Logic.{SProp, emp, id⊢}
use base.Fml.{ftrue}
use types.Kit.{‵, raw, ◌⊛◌, ◌$◌, ◌∵◌, !, qed, by, move, keep, split, fsplit, fjoin, use0, use1}
use types.Run.{stop, addr, of_opd, no_more, and_then, returns, enter}
use types.ByLocal.{alloc_all, pass_all, free_all, look_at, get, through, sets}
use types.Part.{agg}
use contract.Monad.{fact, fact_i}
use contract.Running.{tables}
use denote.Builtin.{RefOf}
use denote.Exit.{yes}
use denote.Opens.{unhide}
use denote.RattleType.{owns}
use denote.RawPtr.{Ptr, block_ptr}
use denote.Ref.{shr_vals, shr_Tells}
use denote.Signature.{plain, types_at}
use denote.Steps.{nothing}
use denote.Triple.Entry.{alive}
use denote.Triple.Walked.{Stays, stay_dropped, walk_of, Goes-dropped}
use Rattle.std.proofs.raw_atomic.Walks.{proved, leaves}
use Rattle.std.specs.declared.option.Option.TheVariants.{Some}
use Rattle.qolb_locks.specs.contracts.lock.Lock as Lock
use Rattle.qolb_locks.specs.contracts.lock_ref.LockRef as LockRef
use Rattle.qolb_locks.specs.Shared.{refers}
use Rattle.qolb_locks.proofs.RefFields.{word, Data, made}
use Rattle.qolb_locks.specs.contracts.lock_ref.LockRef.of.{ended, clauses}
use Rattle.qolb_locks.specs.contracts.lock_ref.LockRef.of.Key.{name as #self}
use Rattle.qolb_locks.proofs.lock_ref.LockRef.of.Statement.{statement}
use Rattle.qolb_locks.proofs.lock_ref.LockRef.of.Code as code

pub of_spec : {M : Type 1} → statement M
of_spec 𝓤 𝓛 𝓜 𝓡 wired =
    let H = 𝓛.H in let 𝓣 = tables 𝓤 H 𝓜 𝓡 𝓡.env in let En = ended in let c = clauses 𝓛 𝓜.mem 𝓡.returns in let fn = code.function in
    let param = RefOf [] tt (plain (λ _. Lock.the_row)) (λ _. tt) in let hs : Stays En.signature.params En.kept = (stay_dropped param yes, tt) in
    proved 𝓛 En hs c 𝓜 𝓡 (Goes-dropped 𝓛 0 param yes (λ κs x f. refl), tt) #self fn (code.unfolded 𝓤 H 𝓜 𝓡 wired)
    (λ κs. (shr_vals, tt)) (λ κs. (shr_Tells static [] Lock.the_row, tt)) (λ κs qs bounds a gh are.
    let b : ℕ = a.0.ref_ptr.0 in let o : ℕ = a.0.ref_ptr.1 in let p : Ptr = block_ptr b o in
    let new : LockRef.the_row.Denot = record { at = p; lock = Some a.0.now } in
    let y : (walk_of 𝓛 En hs c).Ghost = ((κs, qs, bounds, a, (vptr b o ∷ [], tt)), gh) in let Post : Val → SProp 𝓤 = (walk_of 𝓛 En hs c).post y in
    qed 𝓛 ((raw (alive 𝓛 En.signature κs qs) ⊛ ‵ (owns (types_at En.signature.params κs) a y.0.4)) ∷ raw ((c κs a).requires gh) ∷ []) ∵
    keep ! (0 ∷ []) $ split ! $ move ! (1 ∷ []) $ fsplit ! $ fsplit ! $ keep ! (1 ∷ 3 ∷ []) $ unhide ! $
    enter ! 𝓣.C 𝓣.Λ fn (vptr b o ∷ []) Post $ alloc_all ! (λ l. pass_all ! refl ((tt, tt), tt) $
    sets ! (addr ! (through ! refl (stop !))) refl (tt, tt) $ sets ! (of_opd ! (get ! refl)) refl (tt, tt) $
    sets ! (agg ! (and_then ! (get ! refl) (no_more !))) refl (tt, (tt, tt)) $
    use0 𝓛 (‵ ftrue) (id⊢ 𝓤 (emp 𝓤)) $ fjoin ! $ use1 𝓛 (‵ (refers p (Some a.0.now))) (id⊢ 𝓤 _) $
    use0 𝓛 (‵ (Data.own_val (p, tt) (word p ∷ []))) (made 𝓛 p) $ fjoin ! $
    use0 𝓛 (raw (fact 𝓤 (Some a.0.now ≡ Some a.0.now))) (fact_i 𝓤 (Some a.0.now ≡ Some a.0.now) (emp 𝓤) refl) $ nothing ! $ nothing ! $ fjoin ! $
    returns ! (look_at ! 0 refl) $ free_all ! refl $ keep ! (3 ∷ 0 ∷ 2 ∷ 1 ∷ []) $ by ! (leaves 𝓛 En hs c y (word p) new (tt, tt) (tt, tt))))
