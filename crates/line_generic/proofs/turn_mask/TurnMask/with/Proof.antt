-- Proof that `with` returns a value without bytes, and that the mask of this value also contains the places of the
-- write.
use Rattle.std.proofs.Common.{bit_or, [], ◌∷◌, refl}
use Rattle.std.proofs.raw_atomic.Walks.{proved}
use base.Fml.{ftrue}
use types.Kit.{‵, raw, ◌⊛◌, ◌$◌, ◌∵◌, !, qed, move, keep, split, fjoin, suffices, done}
use types.Part.{agg}
use types.Run.{enter, returns, no_more}
use types.ByLocal.{alloc_all, free_all, pass_all, look_at, sets}
use denote.Exit.{yes}
use denote.RattleType.{owns}
use denote.Ref.{shr_vals, shr_Tells}
use mir.Syntax.{named}
use mir.Val.{Val, vptr}
use denote.Signature.{plain, types_at}
use denote.Steps.{nothing}
use denote.Triple.Entry.{alive}
use denote.Triple.Walked.{says, Stays, walk_of, stay_none_ref, Goes-none_ref, ends_at}
use Rattle.line_generic.specs.contracts.turn_mask.TurnMask as TurnMask
use Rattle.line_lanes.specs.contracts.line.Mask as Mask
use Rattle.line_generic.specs.contracts.turn_mask.TurnMask.with as f
use Rattle.line_generic.proofs.turn_mask.TurnMask.with.Statement.{statement}
use Rattle.line_generic.proofs.turn_mask.TurnMask.with.Code as code
use Rattle.qolb_model.proofs.Ghosts.{no_bytes, made}

abbrev stayed : Stays f.ended.signature.params f.ended.kept
stayed = (stay_none_ref (0 ∷ []) tt (plain (λ _. TurnMask.the_row)) yes, (stay_none_ref (1 ∷ []) tt (plain (λ _. Mask.the_row)) yes, tt))

pub with_spec : {M : Type 1} → statement M
with_spec 𝓤 𝓛 𝓜 𝓡 wired =
    let c = f.clauses 𝓛 𝓜.mem 𝓡.returns in let W = walk_of 𝓛 f.ended stayed c in
    proved 𝓛 f.ended stayed c 𝓜 𝓡 (Goes-none_ref 𝓛 2 (0 ∷ []) tt (plain (λ _. TurnMask.the_row)) yes, (Goes-none_ref 𝓛 2 (1 ∷ []) tt (plain (λ _. Mask.the_row)) yes, tt))
    f.Key.name code.function (code.unfolded 𝓤 𝓛.H 𝓜 𝓡 wired)
    (λ κs. (shr_vals, (shr_vals, tt))) (λ κs. (shr_Tells (named 0) κs.0 TurnMask.the_row, (shr_Tells (named 1) κs.1.0 Mask.the_row, tt))) (λ κs qs bounds a _ are.
    let at : Val = vptr a.0.ref_ptr.0 a.0.ref_ptr.1 in let of : Val = vptr a.1.0.ref_ptr.0 a.1.0.ref_ptr.1 in let y : W.Ghost = ((κs, qs, bounds, a, (at ∷ [], (of ∷ [], tt))), tt) in
    let mask : (TurnMask.the_row).Denot = record { bits = bit_or a.0.now.bits a.1.0.now.0 } in
    qed 𝓛 ((raw (alive 𝓛 f.signature κs qs) ⊛ ‵ (owns (types_at f.signature.params κs) a (at ∷ [], (of ∷ [], tt)))) ∷ ‵ ftrue ∷ []) ∵
    keep ! (0 ∷ []) $ split ! $ enter ! _ _ _ (at ∷ of ∷ []) _ $ alloc_all ! (λ l. pass_all ! refl ((tt, tt), ((tt, tt), tt)) $
    sets ! (agg ! (no_more !)) refl (tt, tt) $
    nothing ! $ made ! $ fjoin ! $
    returns ! (look_at ! 0 refl) $ free_all ! refl $
    suffices ! _ (ends_at 𝓛 f.ended stayed c y no_bytes mask (tt, (tt, tt)) (tt, (tt, tt))) $ says ! refl $
    move ! (1 ∷ 2 ∷ 0 ∷ []) $ done !))
