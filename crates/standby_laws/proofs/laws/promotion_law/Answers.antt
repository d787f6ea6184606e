use Rattle.store_format.proofs.Crashes.{left_again}
use Rattle.file_copies.proofs.Logs.{completed_left, completed_part}
use Rattle.standby_laws.proofs.Promotion.{mended, none_confirmed, promoted}
use Rattle.standby_laws.proofs.laws.promotion_law.Goals as goal

pub returns : goal.returns
returns c = record {
  restored = promoted left_again;
  mended = mended left_again (record { whole = completed_left; again = completed_part });
  unbegun = none_confirmed;
}
