-- The value of a handle in memory, and what a handle owns: nothing if the handle is null, and otherwise a boxed node.
-- The proofs assume `Logic`.
use Rattle.std.proofs.Common.{◌≡◌, ℕ, List, [], ◌∷◌, ◌++◌, refl, ap, ◌∙◌}
use seplogic.Ra.Ura.{Ura}
use mir.Raw.{raw as bare}
use mir.Val.{Val, vstruct, vcons, vnil, of_list}
use base.Logic.{ent, emp, via, never_e, snd∗, guard_i}
use base.Fml.{ftrue}
use base.Fraction.{full_share}
use types.Logic.{Logic, sem}
use types.Kit.{Item, Goal, Seq, ‵, given, drop, learn, use1, ◌$◌}
use contract.Monad.{fact_use}
use denote.Memory.{lone}
use denote.RattleType.{RattleType}
use denote.RawPtr.{Ptr, block_ptr, null_ptr, ptr_val, Testable, lies_at}
use denote.Laws.{Is}
use denote.Shadow.{makes_shadow}
use denote.Struct.Struct.{Struct}
use denote.Struct.Owning.{shape}
use Rattle.std.specs.declared.option.Option.{Option}
use Rattle.std.specs.declared.option.Option.TheVariants.{None, Some}
use Rattle.std.specs.Box.Ownership.{box_owns}
use Rattle.std_heap.specs.declared.Global.{Global}
use Rattle.std.proofs.GlobalToken.{dealloc_token-Testable}
use Rattle.qolb_nodes.specs.contracts.any_node.AnyNode as Node
use Rattle.qolb_nodes.specs.contracts.handle.Handle as Handle
use Rattle.qolb_nodes.specs.Held.{handle_owns, may_free}

abbrev pub word : Ptr → Val
word p = vstruct (vcons (ptr_val p) vnil)

abbrev pub Data : RattleType
Data = Struct (shape Handle.the_type)

pub told : (p : Ptr) (vs : List Val) → Is Data (p, tt) vs → vs ≡ word p ∷ []
told p vs is = is.1.0 ∙ ap (λ (ws : List Val). vstruct (of_list (ws ++ [])) ∷ []) is.1.1.0

pub made : {M : Type 1} {𝓤 : Ura M} (𝓛 : Logic 𝓤) (p : Ptr) → ent 𝓤 (emp 𝓤) (sem 𝓛 (Data.own_val (p, tt) (word p ∷ [])))
made 𝓛 p = makes_shadow 𝓛 (Data.own_val (p, tt) (word p ∷ [])) (λ vss. (tt, (tt, tt))) ((ptr_val p ∷ [], tt), (refl, (refl, tt)))

module _ {M : Type 1} {𝓤 : Ura M} {𝓛 : Logic 𝓤} {K : Type 0} {Γ : List (Item 𝓤)} {G : Goal 𝓤 𝓛.H} where
  pub cases : K → (alloc : Global) (p : Ptr) (m : Option Node.the_row.Denot)
      → (p ≡ null_ptr → m ≡ None → Seq K 𝓛 Γ G)
      → ((b o : ℕ) (n : Node.the_row.Denot) → p ≡ block_ptr b o → m ≡ Some n → Testable (block_ptr b o) → Seq K 𝓛 (‵ (box_owns may_free Node.the_row (block_ptr b o) n) ∷ Γ) G)
      → Seq K 𝓛 (‵ (handle_owns p m) ∷ Γ) G
  cases t alloc null_ptr None none one = drop t $ none refl refl
  cases t alloc null_ptr (Some n) none one = use1 𝓛 (given ⊥ (‵ ftrue)) (never_e 𝓤 _) $ learn t (λ z. absurd z)
  cases t alloc (block_ptr b o) None none one = use1 𝓛 (given ⊥ (‵ ftrue)) (never_e 𝓤 _) $ learn t (λ z. absurd z)
  cases t alloc (block_ptr b o) (Some n) none one =
      let p : Ptr = block_ptr b o in
      use1 𝓛 (given (Testable p) (‵ (box_owns may_free Node.the_row p n)))
      (fact_use 𝓤 (Testable p) (via 𝓤 _ (snd∗ 𝓤 (sem 𝓛 (lies_at Node.the_row full_share p n)) (sem 𝓛 (may_free (bare (lone Node.the_row.mir)) p))) (dealloc_token-Testable 𝓛 alloc (bare (lone Node.the_row.mir)) p))
      (guard_i 𝓤 (Testable p) (sem 𝓛 (box_owns may_free Node.the_row p n)))) $ learn t (λ e. one b o n refl refl e)
