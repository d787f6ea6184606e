-- The loop of `push_text`: the characters passed so far stand behind the text, whose room stays.
use Rattle.std.proofs.Common.{◌≡◌, ◌+◌, ◌++◌, take, vec_len, vec_capacity}
use Rattle.block_seq.proofs.row_text.push_text.Given as goal

abbrev pub invariant-loop-character : goal.invariant-loop-character
invariant-loop-character l =
    (l.text.items ≡ l.initial.text.items ++ take l.character-index l.more)
    × (vec_capacity l.text ≡ vec_capacity l.initial.text)
    × (vec_len l.text ≡ vec_len l.initial.text + l.character-index)
