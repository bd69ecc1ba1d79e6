use Rattle.listing_text.proofs.Written.{AddressLaws, listing_back}
use Rattle.listing_text.proofs.laws.written_law.Goals as goal

pub returns : goal.returns
returns c = λ children entries usable can.
    listing_back children
    (record {
      usable = usable;
      short = λ a accepted. c.short_numbers_law.ensures children a usable accepted.fits;
      read = λ a accepted. c.read_back_law.ensures children a usable accepted;
    })
    entries can
