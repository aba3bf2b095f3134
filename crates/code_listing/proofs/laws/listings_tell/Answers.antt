use Rattle.code_listing.proofs.ListingInjectivity.{listing_tells}
use Rattle.code_listing.proofs.laws.listings_tell.Goals as goal

pub returns : goal.returns
returns c = listing_tells
