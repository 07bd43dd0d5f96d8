-- Worked examples: small scripts with their replies, which the prover computes from the definitions.
use Rattle.std.specs.Prelude.{◌≡◌, [], ◌∷◌, ◌++◌, codes, map, replicate, refl, Some, None, Ok, Err}
use Rattle.std.specs.Fmt.{digits}
use Rattle.hex.specs.Hex.{encode_with, decode_pairs}
use Rattle.qolb_script.specs.declared.error.ScriptError.TheVariants.{BadLine, Number}
use Rattle.link_core.specs.declared.event.Event.TheVariants.{Reset, Prepend, Link, Home, Close}
use Rattle.link_core.specs.declared.told.Told.TheVariants as told
use Rattle.qolb_script.specs.Reply.{reply_to, text_of}
use Rattle.qolb_script.specs.StepScript.{steps_of}
use Rattle.qolb_script.specs.StepReply.{step_said, step_summary}
use Rattle.qolb_script.specs.declared.job.Job.TheVariants.{Put, Take, PayIn, PayOut, Move}
use Rattle.qolb_script.specs.declared.job.WorkKind.TheVariants.{Board, Bank}
use Rattle.qolb_script.specs.declared.report.Report.TheVariants as report
use Rattle.qolb_script.specs.WorkScript.{work_of}
use Rattle.qolb_script.specs.Reports.{report_text}

no_commands : reply_to (codes "nodes 1 lines 1\n") ≡ Ok (codes "line 0 served 0 withdrawn 0 told 0 left 0\n")
unfolding digits
no_commands = refl

-- one node writes, and hands the line over to another node
handed_over : reply_to (codes "nodes 2 lines 1\nenq 1 0\nwrite 1 0 0 a1b2\nenq 2 0\npoll 2 0\ndeq 1 0\npoll 2 0\nshow 2 0\ndeq 2 0\n") ≡ Ok (codes "granted\nok\nqueued\nwaiting\nreleased\ngranted\na1b2" ++ replicate 124 48 ++ codes "\nreleased\nline 0 served 2 withdrawn 0 told 0 left 0\n")
unfolding digits encode_with decode_pairs
handed_over = refl

-- a write can reach the last byte of a line, and no byte after it
last_place : reply_to (codes "nodes 1 lines 1\nenq 1 0\nwrite 1 0 63 ff\nshow 1 0\n") ≡ Ok (codes "granted\nok\n" ++ replicate 126 48 ++ codes "ff\nline 0 served 0 withdrawn 0 told 0 left 1\n")
unfolding digits encode_with decode_pairs
last_place = refl

behind_the_last_place : reply_to (codes "nodes 1 lines 1\nenq 1 0\nwrite 1 0 63 ffff\nshow 1 0\n") ≡ Err (BadLine 3)
unfolding decode_pairs
behind_the_last_place = refl

-- commands that the state of the node does not allow
misuses : reply_to (codes "nodes 1 lines 1\npoll 1 0\ndeq 1 0\nenq 1 0\nenq 1 0\ndeq 1 0\n") ≡ Ok (codes "misuse\nmisuse\ngranted\nmisuse\nreleased\nline 0 served 1 withdrawn 0 told 0 left 0\n")
unfolding digits
misuses = refl

-- the oldest request is served first, whichever node made the request
in_order : reply_to (codes "nodes 4 lines 1\nenq 4 0\nenq 3 0\nenq 1 0\nenq 2 0\ndeq 4 0\npoll 1 0\npoll 3 0\ndeq 3 0\npoll 2 0\npoll 1 0\ndeq 1 0\npoll 2 0\n") ≡ Ok (codes "granted\nqueued\nqueued\nqueued\nreleased\nwaiting\ngranted\nreleased\nwaiting\ngranted\nreleased\ngranted\nline 0 served 3 withdrawn 0 told 0 left 1\n")
unfolding digits
in_order = refl

-- a node that has withdrawn is busy until a release skips its request
withdrawn : reply_to (codes "nodes 3 lines 1\nenq 1 0\nenq 2 0\nenq 3 0\nout 2 0\nenq 2 0\ndeq 1 0\nenq 2 0\npoll 3 0\ndeq 3 0\npoll 2 0\n") ≡ Ok (codes "granted\nqueued\nqueued\nwithdrawn\nbusy\nreleased\nqueued\ngranted\nreleased\ngranted\nline 0 served 2 withdrawn 1 told 0 left 1\n")
unfolding digits
withdrawn = refl

-- on a closed line, every request whose turn comes is notified of the closing
closed : reply_to (codes "nodes 3 lines 1\nenq 1 0\nenq 2 0\nenq 3 0\nshut 1 0\npoll 3 0\npoll 2 0\npoll 3 0\nenq 1 0\nenq 2 0\n") ≡ Ok (codes "granted\nqueued\nqueued\nshut\nwaiting\nclosed\nclosed\nclosed\nclosed\nline 0 served 1 withdrawn 0 told 4 left 0\n")
unfolding digits
closed = refl

-- two lines do not share any state
two_lines : reply_to (codes "nodes 2 lines 2\nenq 1 0\nenq 2 1\nenq 1 1\ndeq 2 1\npoll 1 1\nshut 1 1\nenq 2 1\nenq 2 0\nout 2 0\n") ≡ Ok (codes "granted\ngranted\nqueued\nreleased\ngranted\nshut\nclosed\nqueued\nwithdrawn\nline 0 served 0 withdrawn 1 told 0 left 1\nline 1 served 2 withdrawn 0 told 1 left 0\n")
unfolding digits
two_lines = refl

-- with a lease of two acquisitions, the second one closes the line
leased : reply_to (codes "nodes 2 lines 1 lease 2\nenq 1 0\nwrite 1 0 0 07\nenq 2 0\ndeq 1 0\npoll 2 0\nenq 1 0\ndeq 2 0\npoll 1 0\nenq 2 0\n") ≡ Ok (codes "granted\nok\nqueued\nreleased\ngranted\nqueued\nreleased\nclosed\nclosed\nline 0 served 2 withdrawn 0 told 2 left 0\n")
unfolding digits decode_pairs
leased = refl

-- a withdrawn request does not count against the lease
leased_and_withdrawn : reply_to (codes "nodes 3 lines 1 lease 2\nenq 1 0\nenq 2 0\nenq 3 0\nout 2 0\ndeq 1 0\npoll 3 0\ndeq 3 0\nenq 1 0\n") ≡ Ok (codes "granted\nqueued\nqueued\nwithdrawn\nreleased\ngranted\nreleased\nclosed\nline 0 served 2 withdrawn 1 told 1 left 0\n")
unfolding digits
leased_and_withdrawn = refl

no_turns : reply_to (codes "nodes 1 lines 1 lease 0") ≡ Err (Number 1)
no_turns = refl

no_number_of_turns : reply_to (codes "nodes 1 lines 1 lease") ≡ Err (BadLine 1)
no_number_of_turns = refl

-- of two faults in a header, a wrong word is named first
wrong_word_first : reply_to (codes "nodes 0 lines 1 leash 1") ≡ Err (BadLine 1)
wrong_word_first = refl

many_nodes : reply_to (codes "nodes 200 lines 1") ≡ Ok (codes "line 0 served 0 withdrawn 0 told 0 left 0\n")
unfolding digits
many_nodes = refl

leased_steps : steps_of (codes "nodes 1 lease 1\nreset 1") ≡ Ok (record { nodes = 1; lease = Some 1; events = Reset 1 ∷ [] })
leased_steps = refl

no_turns_of_steps : steps_of (codes "nodes 1 lease 0") ≡ Err (Number 1)
no_turns_of_steps = refl

-- first faults: no header, a number that is out of its range, and a missing word
nothing : reply_to [] ≡ Err (BadLine 1)
nothing = refl

too_many_nodes : reply_to (codes "nodes 201 lines 1") ≡ Err (Number 1)
too_many_nodes = refl

no_such_node : reply_to (codes "nodes 2 lines 1\nenq 3 0") ≡ Err (Number 2)
no_such_node = refl

no_line : reply_to (codes "nodes 2 lines 1\nenq 1") ≡ Err (BadLine 2)
no_line = refl

-- step scripts: the events in order, and first faults
two_lines_of_steps : steps_of (codes "nodes 2\nlink 2") ≡ Ok (record { nodes = 2; lease = None; events = Link 2 ∷ [] })
two_lines_of_steps = refl

closing_steps : steps_of (codes "nodes 2\nreset 1\nprepend 1\n\nclose 1\nhome 1\n") ≡ Ok (record { nodes = 2; lease = None; events = Reset 1 ∷ Prepend 1 ∷ Close 1 ∷ Home 1 ∷ [] })
closing_steps = refl

no_such_node_of_steps : steps_of (codes "nodes 2\nlink 3") ≡ Err (Number 2)
no_such_node_of_steps = refl

steps_have_no_lines : steps_of (codes "nodes 2 lines 1\nlink 1") ≡ Err (BadLine 1)
steps_have_no_lines = refl

write_past_the_end : steps_of (codes "nodes 2\nwrite 1 63 ffff") ≡ Err (BadLine 2)
unfolding decode_pairs
write_past_the_end = refl

-- the text for a request that is served and a request that is notified of the closed line, with a refused event between
-- them
said_of_steps : text_of (map step_said (Some told.Went ∷ Some told.Granted ∷ Some told.Shut ∷ None ∷ Some told.Closed ∷ [])) ≡ codes "went\ngranted\nshut\nrefused\nclosed\n"
said_of_steps = refl

summary_of_steps : text_of (step_summary (map step_said (Some told.Went ∷ Some told.Granted ∷ Some told.Shut ∷ None ∷ Some told.Closed ∷ Some told.Withdrawn ∷ Some told.Released ∷ [])) 3 ∷ []) ≡ codes "line 0 served 2 withdrawn 1 told 1 left 3\n"
unfolding digits
summary_of_steps = refl

-- work scripts: the jobs in order, and first faults
work_on_a_board : work_of Board (codes "board workers 2\n2 put 5\n\n1 take\n") ≡ Ok (record { kind = Board; workers = 2; lines = 1; jobs = Put 2 5 ∷ Take 1 ∷ [] })
work_on_a_board = refl

work_at_a_bank : work_of Bank (codes "bank workers 1 lines 2\n1 in 0 10\n1 move 0 9 4\n1 out 9 9\n") ≡ Ok (record { kind = Bank; workers = 1; lines = 2; jobs = PayIn 1 0 10 ∷ Move 1 0 9 4 ∷ PayOut 1 9 9 ∷ [] })
work_at_a_bank = refl

no_such_account : work_of Bank (codes "bank workers 1 lines 1\n1 in 8 1\n") ≡ Err (Number 2)
no_such_account = refl

-- an unknown job is bad, whatever its worker is
unknown_job_first : work_of Board (codes "board workers 1\n2 give\n") ≡ Err (BadLine 2)
unknown_job_first = refl

no_work_of_this_kind : work_of Board (codes "bank workers 1 lines 1\n") ≡ Err (BadLine 1)
no_work_of_this_kind = refl

report_of_a_bank : report_text (report.Bank 10 1 9) ≡ codes "in 10\nout 1\ntotal 9\n"
unfolding digits
report_of_a_bank = refl
