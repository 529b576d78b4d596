-- The loop takes byte by byte: what the text says is what the bytes from here on say behind the value so far (`Reading`).
use Rattle.parsing.proofs.Values.{Reading}
use Rattle.parsing.proofs.number_of.Given as goal

abbrev pub invariant-loop-byte : goal.invariant-loop-byte
invariant-loop-byte l = Reading l.text l.value l.byte-index
