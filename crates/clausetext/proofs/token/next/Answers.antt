use Rattle.clausetext.proofs.Lexing.{pass_begin, pass_over, pass_remark, pass_blank, pass_percent, pass_lower, pass_upper, pass_sign, pass_no_token}
use Rattle.clausetext.proofs.token.next.Goals as goal

pub loop-at-init : goal.loop-at-init
loop-at-init c = pass_begin c.args.text.now c.args.from

pub loop-at-preserved-then-remark : goal.loop-at-preserved-then-remark
loop-at-preserved-then-remark c = pass_remark c.loop-at.invariant c.loop-at-test.true c.if-remark.true

pub loop-at-preserved-in-Blank : goal.loop-at-preserved-in-Blank
loop-at-preserved-in-Blank c = pass_blank c.loop-at.invariant c.loop-at-test.true c.if-remark.false c.kind_of.ensures c.in-Blank.is

pub returns-in-Lower : goal.returns-in-Lower
returns-in-Lower c =
    pass_lower c.loop-at.invariant c.loop-at-test.true c.if-remark.false c.kind_of.ensures c.in-Lower.is c.word_end-stop.ensures

pub returns-in-Upper : goal.returns-in-Upper
returns-in-Upper c =
    pass_upper c.loop-at.invariant c.loop-at-test.true c.if-remark.false c.kind_of.ensures c.in-Upper.is c.word_end-stop-in-Upper.ensures

pub returns-in-Sign : goal.returns-in-Sign
returns-in-Sign c = pass_sign c.loop-at.invariant c.loop-at-test.true c.if-remark.false c.kind_of.ensures c.in-Sign.is

pub returns-in-Further : goal.returns-in-Further
returns-in-Further c = pass_no_token c.loop-at.invariant c.loop-at-test.true c.if-remark.false c.kind_of.ensures c.in-Further.is

pub loop-at-preserved : goal.loop-at-preserved
loop-at-preserved c = pass_percent c.loop-at.invariant c.loop-at-test.true c.if-remark.false c.kind_of.ensures c.in-Percent.is

pub returns : goal.returns
returns c = pass_over c.loop-at.invariant c.loop-at-test.false
