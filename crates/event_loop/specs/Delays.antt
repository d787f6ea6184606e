-- Replies that are held back.
use Rattle.std.specs.Prelude.{ℕ}
use Rattle.event_loop.specs.declared.delay.Delay.{Delay}
use Rattle.event_loop.specs.declared.delay.Delay.TheVariants.{Free, Pause, LogIn, Change, Over}

-- how many bytes of the replies are held back: during a pause, the reply to a wrong token
abbrev pub held_by : Delay → ℕ
held_by (Pause until bytes) = bytes
held_by Free = 0
held_by (LogIn until) = 0
held_by (Change wanted until) = 0
held_by Over = 0
