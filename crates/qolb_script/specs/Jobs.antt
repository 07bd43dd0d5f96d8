-- The header and the jobs of a work script. The definitions in this file were made for this project; none is taken from
-- the literature.
use Rattle.std.specs.Prelude.{ℕ, ◌*◌, ◌-◌, ◌^◌, ◌<◌, is_err, if◌then◌else◌, List, [], ◌∷◌, codes, Result, Ok, Err}
use Rattle.std.specs.Str.{bytes_eq}
use Rattle.qolb_model.specs.declared.config.TheConstants.{MAX_NODES}
use Rattle.qolb_script.specs.declared.job.Job.{Job}
use Rattle.qolb_script.specs.declared.job.Job.TheVariants.{Put, Take, PayIn, PayOut, Move}
use Rattle.qolb_script.specs.declared.job.WorkKind.{WorkKind}
use Rattle.qolb_script.specs.declared.job.WorkKind.TheVariants.{Board, Bank}
use Rattle.qolb_script.specs.declared.job.TheConstants.{ACCOUNTS_A_LINE}
use Rattle.qolb_script.specs.declared.job_reader.WorkHeader.{WorkHeader}
use Rattle.qolb_script.specs.declared.schedule.TheConstants.{MAX_LINES}
use Rattle.qolb_script.specs.declared.reason.Reason.{Reason}
use Rattle.qolb_script.specs.declared.reason.Reason.TheVariants.{Begin, Word, NoWorker, Count}
use Rattle.qolb_script.specs.declared.reason.ScriptKind.TheVariants as script
use Rattle.qolb_script.specs.declared.reason.Allowed.{Allowed}
use Rattle.qolb_script.specs.declared.reason.Allowed.TheVariants as allowed
use Rattle.qolb_script.specs.declared.reason.Form.TheVariants as form
use Rattle.qolb_script.specs.Refusals.{and_then, unless_same}
use Rattle.qolb_script.specs.Text.{number_within}
use Rattle.qolb_script.specs.Commands.{node_within}

-- the worker that does the job
abbrev pub worker_of : Job → ℕ
worker_of (Put worker task) = worker
worker_of (Take worker) = worker
worker_of (PayIn worker account amount) = worker
worker_of (PayOut worker account amount) = worker
worker_of (Move worker source target amount) = worker

-- the job belongs to this kind of work, and its accounts lie on `lines` lines
abbrev pub IsOfKind : WorkKind → ℕ → Job → Type 0
IsOfKind Board lines (Put worker task) = Unit {0}
IsOfKind Board lines (Take worker) = Unit {0}
IsOfKind Bank lines (PayIn worker account amount) = account < ACCOUNTS_A_LINE * lines
IsOfKind Bank lines (PayOut worker account amount) = account < ACCOUNTS_A_LINE * lines
IsOfKind Bank lines (Move worker source target amount) = (source < ACCOUNTS_A_LINE * lines) × (target < ACCOUNTS_A_LINE * lines)
IsOfKind _ lines _ = ⊥

-- The first word denotes a worker. A task or an amount can be any number. An account must lie on one of the lines.
abbrev pub worker_within : ℕ → List ℕ → Result ℕ Reason
worker_within workers word = node_within 1 workers word

abbrev pub any_number : ℕ → List ℕ → Result ℕ Reason
any_number place word = number_within place 0 (2 ^ 64 - 1) word

abbrev pub account_within : ℕ → ℕ → List ℕ → Result ℕ Reason
account_within place lines word = number_within place 0 (ACCOUNTS_A_LINE * lines - 1) word

-- the reason why a line is not a job, given that its second word does not name a job
abbrev pub no_job : Allowed → ℕ → List ℕ → Reason
no_job all workers worker = if is_err (worker_within workers worker) then NoWorker workers else Word 2 all

-- the words of a job that follow the worker and the second word, for a board and for a bank
abbrev pub take_of : ℕ → List ℕ → List (List ℕ) → Result Job Reason
take_of workers worker [] = and_then (worker_within workers worker) (λ w. Ok (Take w))
take_of workers worker words = Err (Count form.Take)

abbrev pub put_of : ℕ → List ℕ → List (List ℕ) → Result Job Reason
put_of workers worker (task ∷ []) = and_then (worker_within workers worker) (λ w. and_then (any_number 3 task) (λ t. Ok (Put w t)))
put_of workers worker words = Err (Count form.Put)

-- a payment, which has a worker, an account and an amount
abbrev pub payment_of : ℕ → ℕ → List ℕ → List (List ℕ) → Result (ℕ × ℕ × ℕ) Reason
payment_of workers lines worker (account ∷ amount ∷ []) =
    and_then (worker_within workers worker) (λ w. and_then (account_within 3 lines account) (λ a. and_then (any_number 4 amount) (λ n. Ok (w, a, n))))
payment_of workers lines worker words = Err (Count form.Payment)

-- a move of an amount from one account to another
abbrev pub move_of : ℕ → ℕ → List ℕ → List (List ℕ) → Result Job Reason
move_of workers lines worker (source ∷ target ∷ amount ∷ []) =
    and_then (worker_within workers worker) (λ w. and_then (account_within 3 lines source) (λ s. and_then (account_within 4 lines target) (λ t. and_then (any_number 5 amount) (λ n. Ok (Move w s t n)))))
move_of workers lines worker words = Err (Count form.Move)

-- the job of a board that these words denote: `w take` or `w put task`
abbrev pub board_job : ℕ → List (List ℕ) → Result Job Reason
board_job workers (worker ∷ verb ∷ rest) =
    if bytes_eq verb (codes "take") then take_of workers worker rest
    else if bytes_eq verb (codes "put") then put_of workers worker rest
    else Err (no_job allowed.BoardJobs workers worker)
board_job workers words = Err (Count (form.Job script.Board))

-- the job of a bank that these words denote: `w in account amount`, `w out account amount` or `w move from to amount`
abbrev pub bank_job : ℕ → ℕ → List (List ℕ) → Result Job Reason
bank_job workers lines (worker ∷ verb ∷ rest) =
    if bytes_eq verb (codes "in") then and_then (payment_of workers lines worker rest) (λ p. Ok (PayIn p.0 p.1 p.2))
    else if bytes_eq verb (codes "out") then and_then (payment_of workers lines worker rest) (λ p. Ok (PayOut p.0 p.1 p.2))
    else if bytes_eq verb (codes "move") then move_of workers lines worker rest
    else Err (no_job allowed.BankJobs workers worker)
bank_job workers lines words = Err (Count (form.Job script.Bank))

-- the job of this kind of work that these words denote
abbrev pub job_of : WorkKind → ℕ → ℕ → List (List ℕ) → Result Job Reason
job_of Board workers lines words = board_job workers words
job_of Bank workers lines words = bank_job workers lines words

-- the words of a header that follow the first word
abbrev pub rest_of_board : List (List ℕ) → Result WorkHeader Reason
rest_of_board (second ∷ workers ∷ []) =
    and_then (unless_same 2 allowed.Workers (codes "workers") second) (λ same. and_then (node_within 3 MAX_NODES workers) (λ w. Ok (record { workers = w; lines = 1 })))
rest_of_board words = Err (Count (form.Header script.Board))

abbrev pub rest_of_bank : List (List ℕ) → Result WorkHeader Reason
rest_of_bank (second ∷ workers ∷ fourth ∷ lines ∷ []) =
    and_then (unless_same 2 allowed.Workers (codes "workers") second) (λ same. and_then (unless_same 4 allowed.Lines (codes "lines") fourth) (λ also. and_then (node_within 3 MAX_NODES workers) (λ w. and_then (number_within 5 1 MAX_LINES lines) (λ l. Ok (record { workers = w; lines = l })))))
rest_of_bank words = Err (Count (form.Header script.Bank))

-- The header that these words denote: `board workers W` for a board, which has one line, or `bank workers W lines L`.
abbrev pub board_header : List (List ℕ) → Result WorkHeader Reason
board_header [] = Err (Count (form.Header script.Board))
board_header (first ∷ rest) = if bytes_eq first (codes "board") then rest_of_board rest else Err (Begin script.Board)

abbrev pub bank_header : List (List ℕ) → Result WorkHeader Reason
bank_header [] = Err (Count (form.Header script.Bank))
bank_header (first ∷ rest) = if bytes_eq first (codes "bank") then rest_of_bank rest else Err (Begin script.Bank)

abbrev pub work_header_of : WorkKind → List (List ℕ) → Result WorkHeader Reason
work_header_of Board words = board_header words
work_header_of Bank words = bank_header words
