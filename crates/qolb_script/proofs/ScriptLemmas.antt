-- Lemmas about reading a script line by line: which items have been read, which lines are still to be read, and which
-- error results if a line is refused. An item is a command, an event or a job.
use Rattle.std.proofs.Common.{◌≡◌, ◌≢◌, ℕ, ◌+◌, ◌<◌, nat_le, false, if◌then◌else◌, List, [], ◌∷◌, ◌++◌, All, length, take, Result, Ok, Err, IsOk, refl, sym, ap, subst, ◌∙◌, arith, append_assoc, length-append}
use Rattle.std.proofs.lemmas.Bool.Decides.{nat_tests}
use Rattle.std.proofs.lemmas.List.Elements.{All-push}
use Rattle.qolb_script.specs.declared.error.ScriptError.TheVariants as error
use Rattle.qolb_script.specs.declared.reason.Reason.{Reason}
use Rattle.qolb_script.specs.declared.reason.Reason.TheVariants as reason
use Rattle.qolb_script.specs.declared.reason.Refusal.{Refusal}
use Rattle.qolb_script.specs.declared.reason.Refusal.TheVariants.{Memory, Line}
use Rattle.qolb_script.specs.declared.schedule.TheConstants.{MAX_COMMANDS}
use Rattle.qolb_script.specs.Refusals.{error_of, line_error, of_line, with_error}
use Rattle.qolb_script.specs.Commands.{read_line}
use Rattle.qolb_script.specs.Script.{followed_by, items_of, made_of, script_under}

-- the items that were read, followed by the items of the remaining lines
abbrev pub onto : {A : Type 0} → List A → Result (List A) Refusal → Result (List A) Refusal
onto read (Ok rest) = Ok (read ++ rest)
onto read (Err why) = Err why

onto-followed_by : {A : Type 0} (read : List A) (item : A) (rest : Result (List A) Refusal) → onto read (followed_by (Ok item) rest) ≡ onto (read ++ item ∷ []) rest
onto-followed_by read item (Ok rest) = ap Ok (sym (append_assoc read (item ∷ []) rest))
onto-followed_by read item (Err why) = refl

-- one more item is read
pub longer : {A : Type 0} (read after : List A) (item : A) → after ≡ read ++ item ∷ [] → length after ≡ length read + 1
longer read after item pushed = ap length pushed ∙ length-append read (item ∷ [])

pub all_read : {A : Type 0} (P : A → Type 0) (read after : List A) (item : A) → All P read → P item → after ≡ read ++ item ∷ [] → All P after
all_read P read after item all one pushed = subst (λ items. All P items) (sym pushed) (All-push P read item all one)

pub item_read : {A : Type 0} (item_of : List (List ℕ) → Result A Reason) (all : Result (List A) Refusal) (read after : List A) (left rest : List (ℕ × List ℕ)) (number : ℕ) (line : List ℕ) (item : A)
    → all ≡ onto read (items_of item_of (length read) left) → length read < 100000 → left ≡ (number, line) ∷ rest → read_line item_of line ≡ Ok item → after ≡ read ++ item ∷ []
    → all ≡ onto after (items_of item_of (length after) rest)
item_read {A} item_of all read after left rest number line item was few next found pushed =
    let below : nat_le MAX_COMMANDS (length read) ≡ false = grind (arith, nat_tests) in
    let others : Result (List A) Refusal = items_of item_of (length read + 1) rest in
    was ∙ ap (λ l. onto read (items_of item_of (length read) l)) next
    ∙ ap (λ b. onto read (followed_by (if b then Err (Line number reason.TooMany) else of_line number (read_line item_of line)) others)) below
    ∙ ap (λ r. onto read (followed_by (of_line number r) others)) found
    ∙ onto-followed_by read item others ∙ ap (λ xs. onto xs others) (sym pushed)
    ∙ ap (λ n. onto after (items_of item_of n rest)) (sym (longer read after item pushed))

-- the first of these lines is an item: it is read now, or it was read before
first_read : {A : Type 0} (item_of : List (List ℕ) → Result A Reason) (number : ℕ) (line : List ℕ) (item : A) (rest : List (ℕ × List ℕ)) → read_line item_of line ≡ Ok item
    → IsOk (items_of item_of 0 (take 1 ((number, line) ∷ rest)))
first_read item_of number line item rest found = subst (λ r. IsOk (followed_by (of_line number r) (Ok []))) (sym found) refl

pub begun : {A : Type 0} (item_of : List (List ℕ) → Result A Reason) (read : List A) (all left rest : List (ℕ × List ℕ)) (number : ℕ) (line : List ℕ) (item : A)
    → (length read ≡ 0 → left ≡ all) → (0 < length read → IsOk (items_of item_of 0 (take 1 all))) → left ≡ (number, line) ∷ rest → read_line item_of line ≡ Ok item
    → IsOk (items_of item_of 0 (take 1 all))
begun item_of [] all left rest number line item first before next found =
    subst (λ lines. IsOk (items_of item_of 0 (take 1 lines))) (sym next ∙ first refl) (first_read item_of number line item rest found)
begun item_of (x ∷ xs) all left rest number line item first before next found = before (omega arith)

-- if a script is read in part or as a whole, neither its header nor its first item is refused
pub begun_under : {H A S : Type 0} (item_of : H → List (List ℕ) → Result A Reason) (make : H → List A → S) (header : H) (rest : List (ℕ × List ℕ)) → IsOk (items_of (item_of header) 0 (take 1 rest))
    → IsOk (script_under item_of make (Ok header) (take 1 rest))
begun_under {A = A} {S = S} item_of make header rest ok = made (make header) (items_of (item_of header) 0 (take 1 rest)) ok
  where
    made : (make : List A → S) (r : Result (List A) Refusal) → IsOk r → IsOk (made_of make r)
    made make (Ok items) ok = refl
    made make (Err why) ok = cc

first_of_all : {A S : Type 0} (make : List A → S) (r : Result A Refusal) (others : Result (List A) Refusal) → IsOk (made_of make (followed_by r others)) → IsOk (made_of make (followed_by r (Ok [])))
first_of_all make (Ok item) (Ok items) ok = refl
first_of_all make (Ok item) (Err why) ok = cc
first_of_all make (Err why) others ok = cc

pub whole_begun : {H A S : Type 0} (item_of : H → List (List ℕ) → Result A Reason) (make : H → List A → S) (header : Result H Refusal) (rest : List (ℕ × List ℕ)) → IsOk (script_under item_of make header rest)
    → IsOk (script_under item_of make header (take 1 rest))
whole_begun item_of make (Err why) rest ok = cc
whole_begun item_of make (Ok header) [] ok = ok
whole_begun item_of make (Ok header) (line ∷ rest) ok =
    first_of_all (make header) (of_line line.0 (read_line (item_of header) line.1)) (items_of (item_of header) 1 rest) ok

-- only a failed allocation has the error `Memory`
memory_only : (n : ℕ) (why : Reason) → line_error n why ≡ error.Memory → ⊥
memory_only n (reason.Number place low high) e = cc
memory_only n reason.TooMany e = cc
memory_only n why e = cc

pub is_memory : (why : Refusal) → error_of why ≡ error.Memory → why ≡ Memory
is_memory Memory e = refl
is_memory (Line n why) e = absurd (memory_only n why e)

pub error_told : {S : Type 0} (parsed : Result S Refusal) (why : Refusal) → (why ≢ Memory → parsed ≡ Err why) → error_of why ≢ error.Memory → with_error parsed ≡ Err (error_of why)
error_told parsed why told other = ap with_error (told (λ memory. other (ap error_of memory)))
