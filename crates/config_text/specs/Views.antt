-- What is read, apart from where it lies in memory.
use Rattle.std.specs.Prelude.{ℕ, Bool, true, false, List}
use Rattle.std.specs.Borrow.{Bor}
use Rattle.atom_traits.specs.declared.tree.Guard.{Guard}
use Rattle.atom_traits.specs.declared.tree.Port.{Port}
use Rattle.atom_traits.specs.declared.tree.Tree.{Tree}
use Rattle.atom_traits.specs.Form.{form}
use Rattle.config_text.specs.declared.trees.TreeStart.{TreeStart}
use Rattle.config_text.specs.declared.trees.TreeStart.TheVariants.{Keep, Put, Add, Sub, Fork}
use Rattle.config_text.specs.declared.draft.Line as rust
use Rattle.config_text.specs.declared.draft.Line.TheVariants as lines
use Rattle.config_text.specs.declared.first.First.{First}
use Rattle.config_text.specs.declared.first.First.TheVariants as firsts
use Rattle.config_text.specs.Lines.{Line, head, target, field, array, containers, stage, op, atom, slot, out, the_end}
use Rattle.config_text.specs.Reading.{GuardRest, PortRest, TreeRest, Key, key_array, key_atom, key_bin, key_cond, key_containers, key_end, key_field, key_hash, key_head, key_out, key_slot, key_stage, key_target, key_un, TreeKey, key_keep, key_put, key_add, key_sub, key_if}

abbrev pub tree_key_of : TreeStart → TreeKey
tree_key_of Keep = key_keep
tree_key_of Put = key_put
tree_key_of Add = key_add
tree_key_of Sub = key_sub
tree_key_of Fork = key_if

abbrev pub first_key : First → Key
first_key firsts.Head = key_head
first_key firsts.Target = key_target
first_key firsts.Field = key_field
first_key firsts.Array = key_array
first_key firsts.Containers = key_containers
first_key firsts.Stage = key_stage
first_key firsts.Un = key_un
first_key firsts.Bin = key_bin
first_key firsts.Cond = key_cond
first_key firsts.Hash = key_hash
first_key firsts.Atom = key_atom
first_key firsts.Slot = key_slot
first_key firsts.Out = key_out
first_key firsts.End = key_end

-- one word stands after it
abbrev pub wants_one : First → Bool
wants_one firsts.Head = true
wants_one firsts.Target = true
wants_one firsts.Field = true
wants_one firsts.Array = false
wants_one firsts.Containers = true
wants_one firsts.Stage = true
wants_one firsts.Un = false
wants_one firsts.Bin = false
wants_one firsts.Cond = false
wants_one firsts.Hash = false
wants_one firsts.Atom = true
wants_one firsts.Slot = false
wants_one firsts.Out = true
wants_one firsts.End = false

abbrev pub line_form : rust.Line → Line
line_form (lines.Head v) = head v
line_form (lines.Target name) = target name
line_form (lines.Field name) = field name
line_form (lines.Array a) = array a
line_form (lines.Containers n) = containers n
line_form (lines.Stage k) = stage k
line_form (lines.Op a) = op a
line_form (lines.Atom n) = atom n
line_form (lines.Slot s t) = slot s (form t)
line_form (lines.Out p) = out p
line_form lines.End = the_end

-- what is read, and the words after it
abbrev pub port_form : Port × Bor (List (List ℕ)) → PortRest
port_form r = record { port = r.0; rest = r.1.now }

abbrev pub guard_form : Guard × Bor (List (List ℕ)) → GuardRest
guard_form r = record { rel = r.0.rel; left = r.0.left; right = r.0.right; rest = r.1.now }

abbrev pub rest_form : Tree × Bor (List (List ℕ)) → TreeRest
rest_form r = record { tree = form r.0; rest = r.1.now }
