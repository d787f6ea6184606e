-- What contracts see of the devices over memory and over std.
use Rattle.std.specs.Prelude.{ℕ, ◌%◌, ◌==◌, ◌&&◌, Bool, false, if◌then◌else◌, min, List, length, Result, Ok, Err}
use Rattle.wire_lines.specs.Device.{one_more}
use Rattle.wire_lines.specs.declared.device.ReadError.{ReadError}
use Rattle.wire_lines.specs.declared.device.ReadError.TheVariants.{Interrupted, Failed}
use Rattle.wire_lines.specs.declared.device.WriteError.{WriteError}
use Rattle.wire_lines.specs.declared.memory.Input.{Input}
use Rattle.wire_lines.specs.declared.memory.Output.{Output}
use Rattle.wire_lines.specs.declared.std_device.Std.{Std}

-- the bytes that an input still gives
abbrev pub input_rest : Input → List ℕ
input_rest input = input.rest.now

-- the settings of a device: the most bytes that it gives or takes in a call, whether each call is interrupted once, and
-- which call fails (0: none)
pub record Settings : Type 0 where
  pub piece : ℕ
  pub is_interrupted : Bool
  pub fails_at : ℕ

-- the settings of an input
abbrev pub input_settings : Input → Settings
input_settings input = record {
  piece = input.piece;
  is_interrupted = input.is_interrupted;
  fails_at = input.fails_at;
}

-- the result of a read of an input into a buffer of this size
abbrev pub input_answer : Input → ℕ → Result ℕ ReadError
input_answer input room =
    if one_more input.calls == input.fails_at then Err Failed
    else if input.is_interrupted && (one_more input.calls % 2 == 1) then Err Interrupted
    else Ok (min (min input.piece (length input.rest.now)) room)

-- the bytes that an output has
abbrev pub output_bytes : Output → List ℕ
output_bytes output = output.bytes.items

-- the settings of an output, which is never interrupted
abbrev pub output_settings : Output → Settings
output_settings output = record {
  piece = output.piece;
  is_interrupted = false;
  fails_at = output.fails_at;
}

-- the result of a write of this many bytes to an output, while there is memory
abbrev pub output_answer : Output → ℕ → Result ℕ WriteError
output_answer output count = if one_more output.calls == output.fails_at then Err (record {})
    else Ok (min output.piece count)

-- the reader or writer of std
abbrev pub std_inner : {T : Type 0} → Std T → T
std_inner device = device.inner
