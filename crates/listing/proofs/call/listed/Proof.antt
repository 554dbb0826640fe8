use borrow.Author.Rules.{rules}
use Rattle.listing.proofs.Telling.{bytes_fit, too_long, written}
use Rattle.listing.proofs.call.listed.Statement.{statement}
use Rattle.listing.proofs.call.listed.Tie as tie

pub listed_spec : {M : Type 1} → statement M
listed_spec =
    tie.close
    (tie.spec
    (λ c. search rules)
    (λ c κs. search rules)
    (λ c κs. search rules)
    (λ c. too_long c.requires.0 c.args.copies.now c.write-bytes.ensures c.if-listing-bytes.true c.refused.ensures)
    (λ c κs. search rules)
    (λ c. bytes_fit c.requires.0 c.args.copies.now c.write-bytes.ensures)
    (λ c. search rules)
    (λ c. written c.requires.0 c.args.copies.now c.write-bytes.ensures c.if-listing-bytes.false c.write.ensures))
