-- Proof that `get_mut` tests the pointer of the handle, and lends the node to which the pointer points. If the borrower
-- changes the node, the contents of the handle change accordingly.
use Rattle.std.proofs.Common.{◌≡◌, ℕ, List, [], ◌∷◌, refl, sym, ap, ◌∙◌, lit<}
use seplogic.Ra.Ura.{Ura}
use base.Fraction.{full_share}
use base.Logic.{SProp, ent, sep, emp}
use base.Fml.{Lft, GName, Share, Fml, ftrue, fsep, flft, fres}
use mir.Raw.{raw as bare}
use mir.Syntax.{named, Body, seq, assign, place, copy, rv_opd, aggregate, int, w8}
use mir.Val.{Val, vptr, vcons, vnil}
use types.Logic.{Logic, sem}
use prog.Wp.{Wp, after_seq, at_return}
use types.Kit.{‵, raw, any_q, split3, ◌⊛◌, some, later, ◌$◌, ◌∵◌, !, at_ret, qed, move, keep, use0, use1, join, split, rewrite, fsplit, fsplit3, fjoin, fjoin3, fpack, pick, await, group, suffices, frame, done}
use types.Match.{live}
use types.Part.{whole, sub, look_in, agg}
use types.Run.{stop, fld, lit, load, of_opd, addr, bin, no_more, and_then, first, blocks, branches, exec, returns, enter}
use types.ByLocal.{alloc_all, pass_all, free_all, look_at, get, through, sets, sets_last, env}
use contract.Running.{tables}
use denote.Builtin.{RefMutOf}
use denote.Exit.{no}
use denote.Follow.{follows, follows_by, lends_Part}
use denote.Laws.{shows}
use denote.Memory.{mem, cell_at, part_at, part_of, lone}
use denote.RattleType.{RattleType, owns}
use denote.RawPtr.{Ptr, block_ptr, null_ptr, tests_null}
use denote.Ref.{MutBor, MutRef, mut_vals, mut_Tells}
use denote.Signature.{plain}
use denote.Steps.{nothing, opens, closes, peeks}
use denote.Triple.Walked.{says, Stays, stay_dropped, walk_of, ends_at, Goes-spent_ref}
use Rattle.core.specs.contracts.option.Option as OP
use Rattle.core.proofs.alloc.Shapes.{after}
use Rattle.core.proofs.option.Made.{Some-of, none_of}
use Rattle.std.specs.declared.option.Option.{Option}
use Rattle.std.specs.declared.option.Option.TheVariants.{None, Some}
use Rattle.std.proofs.raw_atomic.Walks.{proved}
use Rattle.qolb_nodes.specs.contracts.any_node.AnyNode as Node
use Rattle.qolb_nodes.specs.contracts.handle.Handle as Handle
use Rattle.qolb_nodes.specs.Held.{handle_owns, may_free}
use Rattle.qolb_nodes.specs.Lent.{with_node}
use Rattle.qolb_nodes.proofs.Handles.{word, Data, told, cases}
use Rattle.qolb_nodes.specs.contracts.handle.Handle.get_mut.{ended, clauses}
use Rattle.qolb_nodes.specs.contracts.handle.Handle.get_mut.Key.{name as #self}
use Rattle.qolb_nodes.proofs.handle.Handle.get_mut.Statement.{statement}
use Rattle.qolb_nodes.proofs.handle.Handle.get_mut.Code as code

abbrev N : RattleType
N = Node.the_row

abbrev R : RattleType
R = Handle.the_row

abbrev stayed : Stays ended.signature.params ended.kept
stayed = (stay_dropped (RefMutOf (0 ∷ []) tt (plain (λ _. R)) (λ _. tt)) no, tt)

-- the statements behind the borrow of the node
abbrev lent : Body
lent = seq (assign (place 6 []) (rv_opd (copy (place 7 [])))) (assign (place 5 []) (aggregate (int w8 1 ∷ copy (place 6 []) ∷ [])))

-- all that a handle with a node owns, except the node
abbrev Rest : Ptr → R.Denot → List Val → ℕ → ℕ → Fml
Rest p d us rb ro = fsep (may_free (bare (lone N.mir)) p) (fsep (Data.own_val (d.at, tt) us) (cell_at full_share R.mir us rb ro))

module _ {M : Type 1} {𝓤 : Ura M} (𝓛 : Logic 𝓤) (d : R.Denot) (us : List Val) (rb ro b o : ℕ) where
  back : d.at ≡ block_ptr b o → (w : N.Denot) → ent 𝓤 (sep 𝓤 (sem 𝓛 ((mem N).own_at w b o)) (sem 𝓛 (Rest (block_ptr b o) d us rb ro))) (sem 𝓛 ((mem R).own_at (with_node d w) rb ro))
  unfolding part_of
  back is w =
      qed 𝓛 (‵ (part_at N full_share w b o) ∷ ‵ (Rest (block_ptr b o) d us rb ro) ∷ []) ∵ move ! (1 ∷ []) $ fsplit3 ! $ move ! (3 ∷ 0 ∷ []) $ fjoin ! $
      rewrite ! 0 (λ (p : Ptr). ‵ (handle_owns p (Some w))) (sym is) refl $ move ! (1 ∷ 0 ∷ []) $ fjoin ! $ move ! (1 ∷ 0 ∷ []) $ fjoin ! $
      fpack ! (List Val) (λ vs. fsep (cell_at full_share R.mir vs rb ro) (R.own_val (with_node d w) vs)) us $ done !

pub get_mut_spec : {M : Type 1} → statement M
unfolding follows_by
get_mut_spec 𝓤 𝓛 𝓜 𝓡 wired =
    let H = 𝓛.H in let A = 𝓛.A in let 𝓣 = tables 𝓤 H 𝓜 𝓡 𝓡.env in let c = clauses 𝓛 𝓜.mem 𝓡.returns in let fn = code.function in
    proved 𝓛 ended stayed c 𝓜 𝓡 (Goes-spent_ref 𝓛 1 (0 ∷ []) tt (plain (λ _. R)), tt) #self fn (code.unfolded 𝓤 H 𝓜 𝓡 wired)
    (λ κs. (mut_vals, tt)) (λ κs. (mut_Tells (named 0) κs.0 R, tt)) (λ κs qs bounds a g are.
    let κ : Lft = κs.0 in let q : Share = qs.0 in let rb : ℕ = a.0.ref_ptr.0 in let ro : ℕ = a.0.ref_ptr.1 in let γ : GName = a.0.ghost_name in let d : R.Denot = a.0.now in
    let y : (walk_of 𝓛 ended stayed c).Ghost = ((κs, qs, bounds, a, (mut_vals a.0, tt)), g) in let Post : Val → SProp 𝓤 = (walk_of 𝓛 ended stayed c).post y in
    let Lent : RattleType = MutRef (named 0) κ N in let Cell = λ (ws : List Val). ‵ (cell_at full_share R.mir ws rb ro) in let Own = λ (ws : List Val). ‵ (Data.own_val (d.at, tt) ws) in
    qed 𝓛 (((‵ (flft κ q) ⊛ ‵ ftrue) ⊛ ‵ (owns (MutRef (named 0) κ R ∷ []) a (mut_vals a.0, tt))) ∷ raw (emp 𝓤) ∷ []) ∵
    split ! $ split ! $ move ! (2 ∷ []) $ fsplit ! $ fsplit3 ! $ keep ! (1 ∷ 2 ∷ 4 ∷ []) $
    enter ! 𝓣.C 𝓣.Λ fn (vptr rb ro ∷ []) Post $ alloc_all ! (λ l. pass_all ! refl ((tt, tt), tt) $ let Ev = env fn.locals l in
    opens ! tt R {h = d} rb ro (λ us. move ! (1 ∷ []) $ peeks ! R _ (shows 𝓛 R) d us (λ are_of. let es = told d.at us are_of.0 in fsplit ! $ move ! (1 ∷ []) $
    -- [what the handle owns; the pointer; the handle's cell; the open borrow; obs; auth]
    cases ! (record { memory = record { seal = tt } }) d.at d.held
    (λ is none. let ws : List Val = word null_ptr ∷ [] in let e : us ≡ ws = es ∙ ap (λ (p : Ptr). word p ∷ []) is in let out : Val = live 0 vnil in
    rewrite ! 1 Cell e refl $
    sets ! (of_opd ! (load ! (through ! refl (fld ! refl (stop !))) (look_in ! 1 (sub ! 0 refl (whole !))))) refl (tt, record { fits = lit< tt }) $
    sets ! (of_opd ! (get ! refl)) refl (tt, record { fits = lit< tt }) $
    sets ! (bin ! (get ! refl) (lit ! tt) tt) refl (tt, tt) $ first ! $ branches ! (get ! refl)
    (λ _. sets_last ! (agg ! (and_then ! (lit ! tt) (no_more !))) refl (tt, (record { fits = lit< tt }, tt)) $
    exec ! 𝓣.C 𝓣.Λ Ev (after 4 fn.body) (at_ret Ev Post) $ sets ! (of_opd ! (get ! refl)) refl (tt, (record { fits = lit< tt }, tt)) $
    nothing ! $ rewrite ! 0 (λ (x : Ptr × Option N.Denot). ‵ (handle_owns x.0 x.1)) (λ i. (sym is i, sym none i)) refl $ rewrite ! 2 Cell (sym e) refl $
    move ! (1 ∷ 0 ∷ []) $ fjoin ! $ move ! (1 ∷ 0 ∷ []) $ closes ! tt R d us rb ro $
    returns ! (look_at ! 0 refl) $ free_all ! refl $ keep ! (0 ∷ 2 ∷ []) $
    use1 𝓛 (‵ (fres γ (R.coded.code d))) (𝓛.names.obs-res γ (R.coded.code d)) $ move ! (1 ∷ []) $ use0 𝓛 (‵ ((OP.the_row Lent).own_val None (out ∷ []))) (none_of 𝓛 Lent) $
    suffices ! _ (ends_at 𝓛 ended stayed c y out None (tt, tt) (tt, tt)) $
    nothing ! $ nothing ! $ fjoin ! $ join ! $ nothing ! $ move ! (2 ∷ 0 ∷ []) $ join ! $ join ! $ frame ! $ says ! none $ done !)
    (λ wrong. absurd wrong))
    (λ b o n is some-is t. let p : Ptr = block_ptr b o in let ws : List Val = word p ∷ [] in let e : us ≡ ws = es ∙ ap (λ (x : Ptr). word x ∷ []) is in
    let v : Val = vptr b o in let out : Val = live 1 (vcons v vnil) in
    rewrite ! 1 Own e refl $ rewrite ! 2 Cell e refl $
    sets ! (of_opd ! (load ! (through ! refl (fld ! refl (stop !))) (look_in ! 2 (sub ! 0 refl (whole !))))) refl (tt, tt) $
    sets ! (of_opd ! (get ! refl)) refl (tt, tt) $
    sets ! (bin ! (get ! refl) (lit ! tt) (tests_null p t)) refl (tt, tt) $ first ! $ branches ! (get ! refl) (λ wrong. absurd wrong) (λ _.
    first ! $ blocks ! $ sets ! (of_opd ! (get ! refl)) refl (tt, tt) $ sets ! (of_opd ! (get ! refl)) refl (tt, tt) $
    use1 𝓛 (‵ (fsep (part_at N full_share n b o) (may_free (bare (lone N.mir)) p))) (base.Logic.id⊢ 𝓤 _) $ fsplit ! $
    -- [the node; the right to free it; the pointer; the handle's cell; the open borrow; obs; auth]
    sets_last ! (addr ! (through ! refl (stop !))) refl (tt, tt) $
    exec ! 𝓣.C 𝓣.Λ Ev lent (any_q (after_seq 𝓤 H (Wp 𝓤 H 𝓣.C 𝓣.Λ Ev (after 4 fn.body) (at_return 𝓤 H Ev Post)) (at_return 𝓤 H Ev Post))) $
    sets ! (of_opd ! (get ! refl)) refl (tt, tt) $ sets_last ! (agg ! (and_then ! (lit ! tt) (and_then ! (get ! refl) (no_more !)))) refl (tt, (record { fits = lit< tt }, (tt, tt))) $
    exec ! 𝓣.C 𝓣.Λ Ev (after 4 fn.body) (at_ret Ev Post) $ sets ! (of_opd ! (get ! refl)) refl (tt, (record { fits = lit< tt }, (tt, tt))) $
    move ! (1 ∷ 2 ∷ 3 ∷ []) $ fjoin3 ! $ move ! (2 ∷ 3 ∷ 4 ∷ 1 ∷ 0 ∷ []) $ group ! 5 $ let All : SProp 𝓤 = sem 𝓛 (Rest p d ws rb ro) in let way = back 𝓛 d ws rb ro b o is in
    use1 𝓛 (later (some (λ (γ' : GName). ‵ (Lent.own_val (record { ref_ptr = (b, o); ghost_name = γ'; now = n }) (v ∷ [])) ⊛ ‵ (flft κ q) ⊛ ‵ (follows R N γ γ' (with_node d)))))
    (lends_Part 𝓛 R N (with_node d) (named 0) κ q rb ro b o γ All way (R.coded.code d) (R.coded.code d) n) $ await ! tt $ pick ! (λ γ'. split3 ! $
    returns ! (look_at ! 0 refl) $ free_all ! refl $ let r : MutBor N.Denot = record { ref_ptr = (b, o); ghost_name = γ'; now = n } in
    use1 𝓛 (‵ ((OP.the_row Lent).own_val (Some r) (out ∷ []))) (Some-of 𝓛 Lent r v) $
    suffices ! _ (ends_at 𝓛 ended stayed c y out (Some r) (tt, tt) (tt, tt)) $
    nothing ! $ nothing ! $ fjoin ! $ join ! $ nothing ! $ move ! (2 ∷ 0 ∷ []) $ join ! $ join ! $ frame ! $ says ! some-is $ done !)))))))
