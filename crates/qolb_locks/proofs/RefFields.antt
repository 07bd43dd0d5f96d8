-- The value of a `LockRef` in memory, and how a proof gets from a `&LockRef` to its field. The proofs assume `Logic`.
use Rattle.std.proofs.Common.{◌≡◌, ℕ, List, [], ◌∷◌, ◌++◌, refl, ap, ◌∙◌}
use seplogic.Ra.Ura.{Ura}
use mir.Val.{Val, vstruct, vcons, vnil, of_list}
use base.Logic.{ent, emp, id⊢}
use base.Fml.{Fml, Share, fsep, ftrue}
use types.Logic.{Logic, sem}
use types.Kit.{‵, ◌$◌, ◌∵◌, !, qed, drop, use0, fjoin, done}
use denote.RattleType.{RattleType}
use denote.Laws.{Is, Tells}
use denote.Memory.{part_at}
use denote.Opens.{Cuts, Cuts-map, Cuts-both, Cuts-Halves, Opened, Opened-one}
use denote.Sharing.{one}
use denote.SharingLaws.{contraction}
use denote.Copied.{Struct-Copied}
use denote.RawPtr.{Ptr, ptr_val}
use denote.Shadow.{makes_shadow}
use denote.Struct.Laws.{RawPtr-copy}
use denote.Struct.Lending.{lent_at, lent_at_shr_laws}
use denote.Struct.OwningLaws.{part_out, part_in}
use denote.Struct.Struct.{Struct}
use denote.Struct.Owning.{shape}
use Rattle.std.specs.declared.option.Option.{Option}
use Rattle.std.specs.declared.option.Option.TheVariants.{None, Some}
use Rattle.qolb_locks.specs.contracts.lock.Lock as Lock
use Rattle.qolb_locks.proofs.lock.Lock.TheLaws as lock
use Rattle.qolb_locks.specs.contracts.lock_ref.LockRef as LockRef
use Rattle.qolb_locks.specs.Shared.{refers}

abbrev pub word : Ptr → Val
word p = vstruct (vcons (ptr_val p) vnil)

abbrev pub Data : RattleType
Data = Struct (shape LockRef.the_type)

pub told : (p : Ptr) (vs : List Val) → Is Data (p, tt) vs → vs ≡ word p ∷ []
told p vs is = is.1.0 ∙ ap (λ (ws : List Val). vstruct (of_list (ws ++ [])) ∷ []) is.1.1.0

abbrev pub vals : Data.Denot → List Val
vals e = word e.0 ∷ []

pub tells : Tells Data (Is Data) vals
tells e vs is = told e.0 vs is

module _ {M : Type 1} {𝓤 : Ura M} (𝓛 : Logic 𝓤) where
  pub made : (p : Ptr) → ent 𝓤 (emp 𝓤) (sem 𝓛 (Data.own_val (p, tt) (word p ∷ [])))
  made p = makes_shadow 𝓛 (Data.own_val (p, tt) (word p ∷ [])) (λ vss. (tt, (tt, tt))) ((ptr_val p ∷ [], tt), (refl, (refl, tt)))

  twice_of : (p : Ptr) (m : Option Lock.the_row.Denot) → ent 𝓤 (sem 𝓛 (refers p m)) (sem 𝓛 (fsep (refers p m) (refers p m)))
  twice_of p None = qed 𝓛 (‵ ftrue ∷ []) ∵ use0 𝓛 (‵ ftrue) (id⊢ 𝓤 (emp 𝓤)) $ fjoin ! $ done !
  twice_of p (Some x) = contraction 𝓛 (lent_at Lock.the_row p x) (lent_at_shr_laws Lock.the_row lock.the_row_laws.shr_laws p x) []

  module _ (d : LockRef.the_row.Denot) (b o : ℕ) where
    abbrev pub Whole : Share → Fml
    Whole q = part_at LockRef.the_row q d b o

    abbrev heap : Fml
    heap = refers d.at d.lock

    abbrev Apart : Share → Fml
    Apart q = fsep (part_at Data q (d.at, tt) b o) heap

    pub twice : ent 𝓤 (sem 𝓛 heap) (sem 𝓛 (fsep heap heap))
    twice = twice_of d.at d.lock

    heap_Cuts : Cuts 𝓛 (λ q. heap)
    heap_Cuts = record {
      cut = λ q q₁ q₂ m. twice;
      join = λ q q₁ q₂ m. qed 𝓛 (‵ heap ∷ ‵ heap ∷ []) ∵ drop ! $ done !;
    }

    whole_Cuts : Cuts 𝓛 Whole
    whole_Cuts = Cuts-map 𝓛 Apart Whole (λ q. part_in 𝓛 LockRef.the_type q d b o) (λ q. part_out 𝓛 LockRef.the_type q d b o)
        (Cuts-both 𝓛 (λ q. part_at Data q (d.at, tt) b o) (λ q. heap) ((Struct-Copied 𝓛 (shape LockRef.the_type) (refl, tt) (RawPtr-copy.copied M 𝓤 𝓛, tt)).cuts (d.at, tt) b o) heap_Cuts)

    pub opened : Opened 𝓛 Whole (one Whole)
    opened = Opened-one 𝓛 Whole (Cuts-Halves 𝓛 Whole whole_Cuts)
