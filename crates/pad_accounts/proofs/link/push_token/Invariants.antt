-- The loop of `push_token`: the text so far, with the bytes that are left.
use Rattle.std.proofs.Common.{◌≡◌, drop}
use Rattle.pad_accounts.specs.Links.{with_token}
use Rattle.pad_accounts.proofs.link.push_token.Given as goal

abbrev pub invariant-loop-byte : goal.invariant-loop-byte
invariant-loop-byte l = with_token l.text.items (drop l.byte-index l.token) ≡ with_token l.initial.text.items l.token
