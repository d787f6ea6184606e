-- Which of the system's errors belongs to a fault.
use Rattle.std.specs.Prelude.{Option, None}
use Rattle.wire_lines.specs.declared.fault.Fault.{Fault}
use Rattle.wire_lines.specs.declared.fault.Fault.TheVariants.{ReadFault, WriteFault}

-- the reader's error for a failed read, the writer's for a failed write, and none for another fault
abbrev pub cause : {A : Type 0} → Fault → Option A → Option A → Option A
cause ReadFault unread unwritten = unread
cause WriteFault unread unwritten = unwritten
cause other unread unwritten = None
