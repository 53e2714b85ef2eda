-- The program of `selfrun`.
use Rattle.std.specs.Prelude.{ℕ, List, codes}
use Rattle.banzai_config.specs.declared.target.Target.{Target}
use Rattle.banzai_config.specs.declared.target.Template.{Template}
use Rattle.banzai_config.specs.declared.target.Template.TheVariants as template

-- a packet's value is added to a word of the array; on the template `write`, which cannot add, it takes the word's place
abbrev pub program_on : Template → List ℕ
program_on template.Write = codes "struct Packet { int key; int val; int seen; }; int acc[64]; void selfrun(struct Packet pkt) { pkt.seen = acc[pkt.key]; acc[pkt.key] = pkt.val; }"
program_on _ = codes "struct Packet { int key; int val; int seen; }; int acc[64]; void selfrun(struct Packet pkt) { acc[pkt.key] = acc[pkt.key] + pkt.val; pkt.seen = acc[pkt.key]; }"

abbrev pub own_program : Target → List ℕ
own_program target = program_on target.template
