-- What a socket gives out is a prefix of what its bytes lead to, whatever pieces they arrive in.
use Rattle.std.proofs.Common.{◌≡◌, ℕ, List, [], ◌++◌, refl, ap, ◌∙◌, sym, cond, append_assoc}
use Rattle.web_wire.specs.Course.{closes, before, course_of}
use Rattle.web_wire.specs.Socket.{Socket, fed, course}
use Rattle.web_wire.specs.Laws.{begun, received, gone_on, PiecesLaw}
use Rattle.web_wire.proofs.Courses.{before-before}

-- bytes that arrived are the first of those that were to arrive
fed_first : (old : Socket) (bytes more : List ℕ) → course (fed old bytes) more ≡ course old (bytes ++ more)
fed_first old bytes more =
    ap (λ all. cond old.ended (closes []) (course_of old.conn all)) (append_assoc old.waiting bytes more)

pub pieces : PiecesLaw
pieces start now all lines sent begun more = refl
pieces start now all lines sent (received before_all _ _ old bytes follows) more =
    ap (course start) (append_assoc before_all bytes more)
    ∙ pieces start old before_all lines sent follows (bytes ++ more)
    ∙ ap (before lines sent) (sym (fed_first old bytes more))
pieces start now all _ _ (gone_on _ lines sent old _ next put follows comes) more =
    pieces start old all lines sent follows more
    ∙ ap (before lines sent) (comes more)
    ∙ before-before lines next sent put (course now more)
