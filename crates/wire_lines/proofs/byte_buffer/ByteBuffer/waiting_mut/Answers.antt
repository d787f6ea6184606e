use Rattle.std.proofs.Common.{◌≡◌, ◌-◌, ◌++◌, refl, sym, ap, ◌∙◌, length, take, drop, slice_range}
use Rattle.std.proofs.lemmas.List.{take_rest}
use Rattle.std.specs.List.{refill}
use Rattle.std.specs.Vec.{with_items_from}
use Rattle.wire_lines.specs.Bytes.{with_waiting}
use Rattle.wire_lines.proofs.Bytes.{part_stays, rest_written, written_from}
use Rattle.wire_lines.proofs.byte_buffer.ByteBuffer.waiting_mut.Goals as goal

pub returns : goal.returns
returns c =
    let b = c.self.inside in
    let xs = b.held.items in (
      (
        refl,
        λ w.
            let after = (with_items_from b.held b.used w).items in
            let is : after ≡ written_from xs b.used w =
            ap (λ n. refill n xs (take b.used xs ++ (w ++ drop (length w) (drop b.used xs)))) b.held.ok.0 in
            let whole : length after ≡ length xs = sym (with_items_from b.held b.used w).ok.0 ∙ b.held.ok.0 in
            let waits = ap (drop b.used) is ∙ rest_written xs b.used w c.self.invariant.1 in
            let was = ap (λ l. slice_range l b.from b.used) is ∙ part_stays xs b.from b.used w c.self.invariant.1 in
            (λ i. record { waiting = waits i; taken = was i; held = whole i; room = b.held.cap - whole i })
            ∙ ap (λ f. with_waiting f w) c.self.view_is,
      ),
      record {
        writes_back = tt;
        value =
            c.slice_mut.ensures.value ∙ ap (λ n. take (n - b.used) (drop b.used xs)) b.held.ok.0 ∙ take_rest xs b.used
            ∙ ap (λ s. s.waiting) c.self.view_is;
      },
    )
