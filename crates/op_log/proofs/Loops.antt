-- The steps of the loops that write and read one value behind the other.
use Rattle.std.proofs.Common.{◌≡◌, ℕ, suc, ◌+◌, ◌-◌, ◌<◌, List, [], ◌∷◌, ◌++◌, sym, ap, ◌∙◌}
use Rattle.std.proofs.Common.{arith, append_assoc}
use Rattle.pad_model.specs.Seen.{with_count}
use Rattle.pad_model.specs.declared.seen.Counted.{Counted}
use Rattle.op_log.specs.Read.{Read, read_all, read_counted, with_counts}

-- some values are read, and the others make all
pub record IsReading (A : Type 0) (read : List ℕ → Read A) (count i : ℕ) (answer : List A) (bytes : List ℕ)
    (whole : Read (List A)) : Type 0 where
  pub value : answer ++ (read_all read (count - i) bytes).value ≡ whole.value
  pub rest : (read_all read (count - i) bytes).rest ≡ whole.rest

pub reading_more : {A : Type 0} (read : List ℕ → Read A) (count i : ℕ) (answer : List A) (bytes more : List ℕ) (x : A)
    (whole : Read (List A)) → i < count → x ≡ (read bytes).value → more ≡ (read bytes).rest →
    IsReading A read count i answer bytes whole → IsReading A read count (i + 1) (answer ++ x ∷ []) more whole
reading_more {A = A} read count i answer bytes more x whole lt value rest now =
    let one : count - i ≡ suc (count - (i + 1)) = omega arith in
    record {
      value = append_assoc answer (x ∷ []) (read_all read (count - (i + 1)) more).value
          ∙ ap (λ (y : A). answer ++ (y ∷ (read_all read (count - (i + 1)) more).value)) value
          ∙ ap (λ (m : List ℕ). answer ++ ((read bytes).value ∷ (read_all read (count - (i + 1)) m).value)) rest
          ∙ ap (λ (n : ℕ). answer ++ (read_all read n bytes).value) (sym one) ∙ now.value;
      rest = ap (λ (m : List ℕ). (read_all read (count - (i + 1)) m).rest) rest
          ∙ ap (λ (n : ℕ). (read_all read n bytes).rest) (sym one) ∙ now.rest;
    }

-- the counts that are read and put in, and the others, make all
pub record IsCounting (count i : ℕ) (seen : List Counted) (bytes : List ℕ) (whole : Read (List Counted)) : Type 0 where
  pub value : with_counts seen (read_all read_counted (count - i) bytes).value ≡ whole.value
  pub rest : (read_all read_counted (count - i) bytes).rest ≡ whole.rest

pub counting_more : (count i : ℕ) (seen counts : List Counted) (bytes more : List ℕ) (x : Counted)
    (whole : Read (List Counted)) → i < count → x ≡ (read_counted bytes).value → more ≡ (read_counted bytes).rest →
    counts ≡ with_count seen x.origin x.count → IsCounting count i seen bytes whole →
    IsCounting count (i + 1) counts more whole
counting_more count i seen counts bytes more x whole lt value rest put now =
    let one : count - i ≡ suc (count - (i + 1)) = omega arith in
    record {
      value = ap (λ (s : List Counted). with_counts s (read_all read_counted (count - (i + 1)) more).value) put
          ∙ ap (λ (y : Counted). with_counts (with_count seen y.origin y.count)
          (read_all read_counted (count - (i + 1)) more).value) value
          ∙ ap (λ (m : List ℕ). with_counts (with_count seen (read_counted bytes).value.origin
          (read_counted bytes).value.count) (read_all read_counted (count - (i + 1)) m).value) rest
          ∙ ap (λ (n : ℕ). with_counts seen (read_all read_counted n bytes).value) (sym one) ∙ now.value;
      rest = ap (λ (m : List ℕ). (read_all read_counted (count - (i + 1)) m).rest) rest
          ∙ ap (λ (n : ℕ). (read_all read_counted n bytes).rest) (sym one) ∙ now.rest;
    }
