-- The numbers and names of faults.
use Rattle.std.specs.Prelude.{ℕ, List, codes}
use Rattle.wire_lines.specs.declared.fault.Fault.{Fault}
use Rattle.wire_lines.specs.declared.fault.Fault.TheVariants.{ReadFault, WriteFault, PeerReply, Memory}

-- the number of a fault
abbrev pub code_of : Fault → ℕ
code_of ReadFault = 510
code_of WriteFault = 511
code_of PeerReply = 512
code_of Memory = 900

-- the name of a fault
abbrev pub name_of : Fault → List ℕ
name_of ReadFault = codes "ReadFault"
name_of WriteFault = codes "WriteFault"
name_of PeerReply = codes "PeerReply"
name_of Memory = codes "Memory"
