-- Proof that `empty` returns a null pointer, which owns nothing.
use Rattle.std.proofs.Common.{◌≡◌, [], ◌∷◌, refl, lit<}
use mir.Val.{Val}
use base.Logic.{SProp, emp}
use types.Kit.{‵, raw, ◌$◌, ◌∵◌, !, qed, by, move, keep, drop, fjoin, use0}
use types.Run.{lit, no_more, and_then, returns, enter}
use types.ByLocal.{alloc_all, pass_all, free_all, look_at, sets}
use types.Part.{agg}
use contract.Monad.{fact, fact_i}
use contract.Running.{tables}
use denote.RawPtr.{null_ptr}
use denote.Steps.{nothing}
use denote.Triple.Walked.{Stays, walk_of}
use Rattle.std.specs.declared.option.Option.TheVariants.{None}
use Rattle.std.proofs.raw_atomic.Walks.{proved_at, leaves}
use Rattle.qolb_nodes.specs.contracts.handle.Handle as Handle
use Rattle.qolb_nodes.proofs.Handles.{word, Data, made}
use Rattle.qolb_nodes.specs.contracts.handle.Handle.empty.{ended, clauses}
use Rattle.qolb_nodes.specs.contracts.handle.Handle.empty.Key.{name as #self}
use Rattle.qolb_nodes.proofs.handle.Handle.empty.Statement.{statement}
use Rattle.qolb_nodes.proofs.handle.Handle.empty.Code as code

pub empty_spec : {M : Type 1} → statement M
empty_spec 𝓤 𝓛 𝓜 𝓡 wired =
    let H = 𝓛.H in let 𝓣 = tables 𝓤 H 𝓜 𝓡 𝓡.env in let En = ended in let c = clauses 𝓛 𝓜.mem 𝓡.returns in let fn = code.function in
    let hs : Stays En.signature.params En.kept = tt in
    proved_at 𝓛 En hs c 𝓜 𝓡 tt #self fn (code.unfolded 𝓤 H 𝓜 𝓡 wired) (λ z are.
    let Post : Val → SProp 𝓤 = (walk_of 𝓛 En hs c).post z in let new : Handle.the_row.Denot = record { at = null_ptr; held = None } in
    qed 𝓛 (raw ((walk_of 𝓛 En hs c).pre z) ∷ []) ∵ drop ! $
    enter ! 𝓣.C 𝓣.Λ fn [] Post $ alloc_all ! (λ l. pass_all ! refl tt $
    sets ! (agg ! (and_then ! (lit ! tt) (no_more !))) refl (tt, (record { fits = lit< tt }, tt)) $
    use0 𝓛 (‵ (Data.own_val (null_ptr, tt) (word null_ptr ∷ []))) (made 𝓛 null_ptr) $ nothing ! $ move ! (1 ∷ 0 ∷ []) $ fjoin ! $
    use0 𝓛 (raw (fact 𝓤 (None ≡ None))) (fact_i 𝓤 (None ≡ None) (emp 𝓤) refl) $ nothing ! $ nothing ! $
    returns ! (look_at ! 0 refl) $ free_all ! refl $ keep ! (0 ∷ 1 ∷ 3 ∷ 2 ∷ []) $ by ! (leaves 𝓛 En hs c z (word null_ptr) new tt tt)))
