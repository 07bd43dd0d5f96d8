use Rattle.std.proofs.Common.{◌≡◌, List, [], ◌∷◌, ◌++◌, map, append_assoc, ap, sym, ◌∙◌}
use Rattle.std.proofs.lemmas.List.{map-append}
use Rattle.std.specs.Vec.Iter.{into_iter_items}
use Rattle.qolb_work.proofs.bank.all_asleep.Goals as goal

-- wraps one of the lines that are left
one_more :
    {X Y : Type 0} (f : X → Y) (all all_then : List X) (x : X) (y : Y) (left left_then opened : List Y)
    → all_then ≡ all ++ x ∷ [] → f x ≡ y → left ≡ y ∷ left_then → map f all ++ left ≡ opened → map f all_then ++ left_then ≡ opened
one_more f all all_then x y left left_then opened pushed same first before =
    ap (λ xs. map f xs ++ left_then) pushed ∙ (ap (λ ys. ys ++ left_then) (map-append f all (x ∷ [])) ∙ (append_assoc (map f all) (f x ∷ []) left_then
    ∙ (ap (λ z. map f all ++ z ∷ left_then) same ∙ (ap (λ ys. map f all ++ ys) (sym first) ∙ before))))

pub loop-line-preserved : goal.loop-line-preserved
loop-line-preserved g c =
    one_more (λ asleep. (asleep.0.line, asleep.1)) c.loop-line.all.items c.push.new.self.items (c.new.result, c.in-Some.ports) (c.in-Some.line, c.in-Some.ports)
    (into_iter_items c.loop-line.line-iterator) (into_iter_items c.next.new.self) c.args.opened.items c.in_ok-push.ensures.items (ap (λ line. (line, c.in-Some.ports)) c.new.ensures) c.in-Some.ensures.steps.0 c.loop-line.invariant
