use Rattle.std.proofs.Common.{◌++◌, List, ℕ, ap, ◌∙◌}
use Rattle.guests.specs.Guests.{guest_name, link_name, secret_of}
use Rattle.guests.proofs.Made.{written_behind}
use Rattle.guests.proofs.secret.guest_bytes.Goals as goal

pub returns : goal.returns
unfolding guest_name
returns c =
    let link = c.copy_from_slice.new.self in
    let own = c.copy_from_slice-2.new.self in
    written_behind link own c.copy_from_slice.ensures.len
    ∙ ap (λ (front : List ℕ). front ++ own) (c.copy_from_slice.ensures.after ∙ c.link_bytes.ensures
    ∙ ap link_name c.secret_of.ensures)
    ∙ ap (λ (rest : List ℕ). link_name (secret_of c.args.token.now) ++ rest)
    (c.copy_from_slice-2.ensures.after ∙ c.letters.ensures)
