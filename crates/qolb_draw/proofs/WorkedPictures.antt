-- Worked examples: the pictures of small scripts, which the prover computes from the definitions.
use Rattle.std.specs.Prelude.{◌≡◌, ◌++◌, codes, refl, Ok, Err}
use Rattle.qolb_script.specs.declared.error.ScriptError.TheVariants.{BadLine}
use Rattle.qolb_draw.specs.declared.form.Form.TheVariants.{Text}
use Rattle.qolb_draw.specs.Pictures.{picture_to, legend}

-- three nodes, each of which hands the line over to the next
handed_over : picture_to Text (codes "nodes 3 lines 1\nenq 1 0\nenq 2 0\nenq 3 0\nshow 1 0\ndeq 1 0\npoll 3 0\npoll 2 0\nshow 2 0\ndeq 2 0\npoll 3 0\nshow 3 0\ndeq 3 0\n")
    ≡ Ok (codes "line 0\n\n                  111\n         123456789012\nnode   1 HHHH>.......\nnode   2 .www<tHH>...\nnode   3 ..wwwwww<HH.\n\n" ++ legend)
handed_over = refl

-- a withdrawn node is passed when the line is closed, and the waiting nodes are told in turn
closed : picture_to Text (codes "nodes 3 lines 1\nenq 1 0\nenq 2 0\nenq 3 0\nout 2 0\nenq 2 0\nshut 1 0\nenq 2 0\npoll 3 0\nenq 1 0\n")
    ≡ Ok (codes "line 0\n\n         123456789\nnode   1 HHHHH>--w\nnode   2 .wwxx-w<t\nnode   3 ..www<tc-\n\n" ++ legend)
closed = refl

-- commands on two lines, where each node makes calls on one of the lines
two_lines : picture_to Text (codes "nodes 3 lines 2\nenq 1 0\nenq 3 1\n\ndeq 3 1\ndeq 1 0\n")
    ≡ Ok (codes "line 0\n\n         14\nnode   1 H.\n\nline 1\n\n         23\nnode   3 H.\n\n" ++ legend)
two_lines = refl

-- commands that are misuse, of a node without a request, a holder, a waiting node, and a node whose turn has come
misused : picture_to Text (codes "nodes 2 lines 1\npoll 1 0\nenq 1 0\nenq 1 0\nenq 2 0\ndeq 2 0\ndeq 1 0\nshow 2 0\npoll 2 0\n")
    ≡ Ok (codes "line 0\n\n         12345678\nnode   1 !H!HH>..\nnode   2 ...w!<!H\n\n" ++ legend)
misused = refl

-- a node that withdraws when its turn has come holds the line
held : picture_to Text (codes "nodes 2 lines 1\nenq 1 0\nenq 2 0\ndeq 1 0\nout 2 0\ndeq 2 0\n") ≡ Ok (codes "line 0\n\n         12345\nnode   1 HH>..\nnode   2 .w<H.\n\n" ++ legend)
held = refl

-- the last turn of a lease closes the line
leased : picture_to Text (codes "nodes 2 lines 1 lease 1\nenq 1 0\nenq 2 0\ndeq 1 0\npoll 2 0\nenq 1 0\n") ≡ Ok (codes "line 0\n\n         12345\nnode   1 HH>-c\nnode   2 .w<c-\n\n" ++ legend)
leased = refl

-- no command
no_commands : picture_to Text (codes "nodes 2 lines 1\n") ≡ Ok (codes "line 0\n\n" ++ legend)
no_commands = refl

no_script : picture_to Text (codes "nodes 2 lines 1\njoin 1 0\n") ≡ Err (BadLine 2)
no_script = refl
