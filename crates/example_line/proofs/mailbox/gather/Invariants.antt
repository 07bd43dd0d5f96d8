use Rattle.std.proofs.Common.{◌≡◌, ◌++◌, ◌%◌, ◌^◌, map}
use Rattle.std.specs.List.{sum_by}
use Rattle.std.specs.Vec.Iter.{into_iter_items}
use Rattle.example_line.proofs.mailbox.gather.Given as goal

abbrev pub invariant-loop-back : goal.invariant-loop-back
invariant-loop-back g l = record {
  all : l.yielded ++ into_iter_items l.back-iterator ≡ into_iter_items l.initial.back-iterator;
  ports : l.ports.items ≡ map (λ back. back.port) l.yielded;
  total : l.total ≡ sum_by (λ back. back.sum) l.yielded % 2 ^ 64;
}
