-- Proof that `get` returns a reference to the lock to which the `LockRef` refers.
use Rattle.std.proofs.Common.{◌≡◌, ℕ, List, [], ◌∷◌, refl, sym, ap}
use mir.Syntax.{named}
use mir.Val.{Val, vptr}
use base.Logic.{SProp, emp}
use base.Fml.{Lft, ftrue, flft}
use contract.BorrowLft.{⊑_static}
use types.Kit.{‵, raw, ◌⊛◌, at_ret, ◌$◌, ◌∵◌, !, qed, by, move, keep, split, join, fsplit, fjoin, use0, use1, use2, rewrite, feq_i}
use types.Run.{stop, fld, load, addr, of_opd, first, blocks, exec, returns, enter}
use types.ByLocal.{alloc_all, pass_all, free_all, look_at, get, through, sets, sets_last, env}
use types.Part.{sub, whole, look_in}
use contract.Monad.{fact, fact_i}
use contract.Running.{tables}
use denote.Builtin.{RefOf}
use denote.Copied.{told_out, told_in}
use denote.Exit.{yes}
use denote.Memory.{cell_at, part_at}
use denote.Opens.{hide, shr_open, shr_Shut}
use denote.RattleType.{RattleType, owns}
use denote.RawPtr.{Ptr, InBlock, block_ptr, block_of, count_of, at_block}
use denote.Ref.{shr_vals, shr_Tells}
use denote.Sharing.{one}
use denote.SharingLaws.{shortens}
use denote.Signature.{plain, types_at}
use denote.Steps.{nothing, heard}
use denote.Struct.Lending.{lent_at, lent_at_shr_laws, in_block_says}
use denote.Struct.OwningLaws.{part_out, part_in}
use denote.Triple.Walked.{Stays, stay_dropped, walk_of, Goes-dropped}
use Rattle.core.proofs.atomic.Steps.{tail}
use Rattle.std.proofs.raw_atomic.Walks.{proved, leaves}
use Rattle.std.specs.declared.option.Option.{Option}
use Rattle.std.specs.declared.option.Option.TheVariants.{Some}
use Rattle.qolb_locks.specs.contracts.lock.Lock as Lock
use Rattle.qolb_locks.proofs.lock.Lock.TheLaws as lock
use Rattle.qolb_locks.specs.contracts.lock_ref.LockRef as LockRef
use Rattle.qolb_locks.specs.Shared.{refers}
use Rattle.qolb_locks.proofs.RefFields.{word, Data, vals, tells, Whole, twice, opened}
use Rattle.qolb_locks.specs.contracts.lock_ref.LockRef.get.{ended, clauses}
use Rattle.qolb_locks.specs.contracts.lock_ref.LockRef.get.Key.{name as #self}
use Rattle.qolb_locks.proofs.lock_ref.LockRef.get.Statement.{statement}
use Rattle.qolb_locks.proofs.lock_ref.LockRef.get.Code as code

pub get_spec : {M : Type 1} → statement M
get_spec 𝓤 𝓛 𝓜 𝓡 wired =
    let H = 𝓛.H in let 𝓣 = tables 𝓤 H 𝓜 𝓡 𝓡.env in let En = ended in let c = clauses 𝓛 𝓜.mem 𝓡.returns in let fn = code.function in
    let Row : RattleType = LockRef.the_row in let R : RattleType = Lock.the_row in let laws = lock.the_row_laws.shr_laws in
    let self = RefOf (0 ∷ []) tt (plain (λ _. Row)) (λ _. tt) in let hs : Stays En.signature.params En.kept = (stay_dropped self yes, tt) in
    proved 𝓛 En hs c 𝓜 𝓡 (Goes-dropped 𝓛 1 self yes (λ κs x f. refl), tt) #self fn (code.unfolded 𝓤 H 𝓜 𝓡 wired)
    (λ κs. (shr_vals, tt)) (λ κs. (shr_Tells (named 0) κs.0 Row, tt)) (λ κs qs bounds a gh are.
    let b : ℕ = a.0.ref_ptr.0 in let o : ℕ = a.0.ref_ptr.1 in let κ : Lft = κs.0 in let d : Row.Denot = a.0.now in let p : Ptr = d.at in let Asked : Type 0 = (x : R.Denot) × (d.lock ≡ Some x) in
    let y : (walk_of 𝓛 En hs c).Ghost = ((κs, qs, bounds, a, (vptr b o ∷ [], tt)), gh) in let Post : Val → SProp 𝓤 = (walk_of 𝓛 En hs c).post y in let there : Val = vptr (block_of p) (count_of p) in
    qed 𝓛 (((‵ (flft κ qs.0) ⊛ ‵ ftrue) ⊛ ‵ (owns (types_at En.signature.params κs) a y.0.4)) ∷ raw (fact 𝓤 Asked) ∷ []) ∵
    move ! (1 ∷ []) $ heard ! Asked (λ asked. let x : R.Denot = asked.0 in split ! $ split ! $ move ! (2 ∷ []) $ fsplit ! $ fsplit ! $ keep ! (1 ∷ 3 ∷ 4 ∷ []) $
    enter ! 𝓣.C 𝓣.Λ fn (vptr b o ∷ []) Post $ alloc_all ! (λ l. pass_all ! refl ((tt, tt), tt) $ let Ev = env fn.locals l in
    shr_open ! tt (Whole 𝓛 d b o) (one (Whole 𝓛 d b o)) (opened 𝓛 d b o) (λ q. move ! (1 ∷ []) $
    use1 𝓛 (‵ (part_at Data q (p, tt) b o) ⊛ ‵ (refers p d.lock)) (part_out 𝓛 LockRef.the_type q d b o) $ split ! $ move ! (1 ∷ []) $
    use1 𝓛 (‵ (refers p d.lock) ⊛ ‵ (refers p d.lock)) (twice 𝓛 d b o) $ split ! $ rewrite ! 0 (λ (m : Option R.Denot). ‵ (refers p m)) asked.1 refl $
    use1 𝓛 (‵ (lent_at R p x κ)) (shortens 𝓛 (lent_at R p x) (lent_at_shr_laws R laws p x) [] κ (⊑_static κ)) $ fsplit ! $
    use1 𝓛 (raw (fact 𝓤 (InBlock p))) (in_block_says 𝓛 p) $ heard ! (InBlock p) (λ inb. hide ! $ move ! (2 ∷ []) $
    use1 𝓛 (‵ (cell_at q Data.mir (word p ∷ []) b o) ⊛ ‵ (Data.own_val (p, tt) (word p ∷ []))) (told_out 𝓛 Data vals tells q (p, tt) b o) $ split ! $
    let ev : word p ∷ [] ≡ word (block_ptr (block_of p) (count_of p)) ∷ [] = ap (λ (r : Ptr). word r ∷ []) (at_block p inb) in
    rewrite ! 0 (λ (ws : List Val). ‵ (cell_at q Data.mir ws b o)) ev refl $
    first ! $ blocks ! $ sets ! (of_opd ! (load ! (through ! refl (fld ! refl (stop !))) (look_in ! 0 (sub ! 0 refl (whole !))))) refl (tt, tt) $
    sets ! (of_opd ! (get ! refl)) refl (tt, tt) $
    sets_last ! (addr ! (through ! refl (stop !))) refl (tt, tt) $ exec ! 𝓣.C 𝓣.Λ Ev (tail fn.body) (at_ret Ev Post) $ sets ! (of_opd ! (get ! refl)) refl (tt, tt) $
    rewrite ! 0 (λ (ws : List Val). ‵ (cell_at q Data.mir ws b o)) (sym ev) refl $
    -- [the cell; what it owns; the lock, twice; the way back; the other tokens]
    use2 𝓛 (‵ (part_at Data q (p, tt) b o)) (told_in 𝓛 Data vals tells q (p, tt) b o (word p ∷ [])) $ move ! (0 ∷ 2 ∷ []) $
    use2 𝓛 (‵ (Whole 𝓛 d b o q)) (part_in 𝓛 LockRef.the_type q d b o) $ move ! (2 ∷ 0 ∷ []) $ shr_Shut ! tt $
    -- [the token; the lock; the other tokens]
    move ! (0 ∷ 2 ∷ []) $ join ! $ move ! (1 ∷ []) $ feq_i ! (List Val) (there ∷ []) (there ∷ []) refl $ fjoin ! $
    use0 𝓛 (raw (fact 𝓤 (d.lock ≡ Some x))) (fact_i 𝓤 (d.lock ≡ Some x) (emp 𝓤) asked.1) $ nothing ! $ nothing ! $ fjoin ! $
    returns ! (look_at ! 0 refl) $ free_all ! refl $ keep ! (3 ∷ 0 ∷ 2 ∷ 1 ∷ []) $ by ! (leaves 𝓛 En hs c y there (record { ref_ptr = (block_of p, count_of p); now = x }) (tt, tt) (tt, tt)))))))
