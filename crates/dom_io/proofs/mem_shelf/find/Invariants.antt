use Rattle.std.proofs.Common.{◌≡◌, drop}
use Rattle.dom_io.specs.Files.{file_of}
use Rattle.dom_io.proofs.mem_shelf.find.Given as goal

abbrev pub invariant-loop-k : goal.invariant-loop-k
invariant-loop-k l = file_of l.files l.name ≡ file_of (drop l.k l.files) l.name
