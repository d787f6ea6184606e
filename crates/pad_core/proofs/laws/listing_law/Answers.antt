use Rattle.pad_core.proofs.Listings.{listed-alike}
use Rattle.pad_core.proofs.laws.listing_law.Goals as goal

pub returns : goal.returns
returns _ = listed-alike
