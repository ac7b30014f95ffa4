-- Messages that mean nothing.
use Rattle.std.specs.Prelude.{List, [], ◌∷◌}
use Rattle.capnp_words.specs.declared.error.ErrorKind.TheVariants.{CannotCreateACanonicalMessageWithACapability}
use Rattle.capnp_words.specs.declared.error.ErrorKind.TheVariants.{CantHandleNonStructInlineComposite}
use Rattle.capnp_words.specs.declared.error.ErrorKind.TheVariants.{InlineCompositeListsOfNonStructTypeAreNotSupported}
use Rattle.capnp_words.specs.declared.error.ErrorKind.TheVariants.{InvalidSegmentId}
use Rattle.capnp_words.specs.declared.error.ErrorKind.TheVariants.{MalformedDoubleFarPointer}
use Rattle.capnp_words.specs.declared.error.ErrorKind.TheVariants.{MessageContainsOutOfBoundsPointer}
use Rattle.capnp_words.specs.declared.error.ErrorKind.TheVariants.{MessageIsTooDeeplyNested}
use Rattle.capnp_words.specs.declared.error.ErrorKind.TheVariants.{MessageIsTooDeeplyNestedOrContainsCycles}
use Rattle.capnp_words.specs.declared.error.ErrorKind.TheVariants.{UnknownPointerType}
use Rattle.capnp_pointers.specs.Examples.{alone}
use Rattle.outside_facts.specs.Facts.{Fact, lacks, refused}

abbrev pub refusals_1 : List Fact
refusals_1 =
    refused ((0x1_00000006 ∷ []) ∷ (0x2_00000027 ∷ 0x1_00000134 ∷ 9 ∷ []) ∷ []) (InvalidSegmentId 2) 2 ∷
    refused (alone (0x1_00000000 ∷ [])) MessageContainsOutOfBoundsPointer 0 ∷
    refused (alone (0xffffffff_fffffffe ∷ [])) (InvalidSegmentId 4294967295) 0 ∷
    refused (alone (7 ∷ 0 ∷ 0 ∷ [])) UnknownPointerType 0 ∷
    refused ((0xffffffff_00000002 ∷ []) ∷ (0x1_0000000e ∷ 0 ∷ 5 ∷ []) ∷ []) (InvalidSegmentId 4294967295) 0 ∷
    refused ((0x1_00000006 ∷ []) ∷ (0x2_00000021 ∷ 0 ∷ 9 ∷ []) ∷ []) (InvalidSegmentId 2) 2 ∷
    refused ((0x1_00000032 ∷ []) ∷ (0xffffffff_ffffffff ∷ 0 ∷ 0 ∷ 0 ∷ 0x41 ∷ 0x76b2082d_7c17b720 ∷ 0x30001_ff7fffe4 ∷ []) ∷ [] ∷ (0x80000000_00000000 ∷ []) ∷ []) MessageContainsOutOfBoundsPointer 1 ∷
    refused ((0x1_00000006 ∷ []) ∷ (0x2_00000021 ∷ 0x1_00000003 ∷ 9 ∷ []) ∷ []) (InvalidSegmentId 2) 2 ∷
    lacks (alone (0x7_00000001 ∷ 9 ∷ 0 ∷ 0 ∷ [])) InlineCompositeListsOfNonStructTypeAreNotSupported InlineCompositeListsOfNonStructTypeAreNotSupported CantHandleNonStructInlineComposite 1 ∷
    refused (alone (9 ∷ 4 ∷ [])) MessageContainsOutOfBoundsPointer 0 ∷
    refused (alone (0x1a ∷ 0xb ∷ 0x2_00000005 ∷ [])) MessageContainsOutOfBoundsPointer 0 ∷
    refused (alone (0xffffffff_00000001 ∷ 4 ∷ [])) MessageContainsOutOfBoundsPointer 0 ∷
    refused ((0x1_00000006 ∷ []) ∷ (0x1_0000001f ∷ 0x1_00000134 ∷ 9 ∷ []) ∷ []) MessageContainsOutOfBoundsPointer 2 ∷
    refused (alone (0x15_00000001 ∷ 4 ∷ [])) MessageContainsOutOfBoundsPointer 0 ∷
    refused ((0x1_00000002 ∷ []) ∷ (0xb ∷ []) ∷ []) MessageContainsOutOfBoundsPointer 1 ∷
    lacks (alone (0xf_00000001 ∷ 5 ∷ 0 ∷ 0 ∷ [])) InlineCompositeListsOfNonStructTypeAreNotSupported InlineCompositeListsOfNonStructTypeAreNotSupported CantHandleNonStructInlineComposite 2 ∷
    refused ((0x2_00000016 ∷ []) ∷ (0x1_00000012 ∷ 0x49_00000015 ∷ 0xffff ∷ []) ∷ []) (InvalidSegmentId 2) 0 ∷
    refused (alone (0xe_7ffffffd ∷ 4 ∷ [])) MessageContainsOutOfBoundsPointer 0 ∷
    refused ((0x1_00000006 ∷ []) ∷ (0x13 ∷ 0x1_00000134 ∷ 9 ∷ []) ∷ []) MessageContainsOutOfBoundsPointer 2 ∷
    refused (alone (0x14_00000009 ∷ 4 ∷ [])) MessageContainsOutOfBoundsPointer 0 ∷
    refused ((0x1_00000006 ∷ []) ∷ (0x2_00000011 ∷ 0 ∷ 9 ∷ []) ∷ []) (InvalidSegmentId 2) 2 ∷
    refused ((0x1_00000006 ∷ []) ∷ (0x1_fffffffd ∷ 0 ∷ 9 ∷ []) ∷ []) MessageContainsOutOfBoundsPointer 2 ∷
    lacks (alone (0x17_00000001 ∷ 0x1_00000002 ∷ 0 ∷ 0 ∷ [])) InlineCompositeListsOfNonStructTypeAreNotSupported InlineCompositeListsOfNonStructTypeAreNotSupported CantHandleNonStructInlineComposite 3 ∷
    lacks (alone (0xf_00000001 ∷ 0xffffffff ∷ 0 ∷ 0 ∷ [])) InlineCompositeListsOfNonStructTypeAreNotSupported InlineCompositeListsOfNonStructTypeAreNotSupported CantHandleNonStructInlineComposite 2 ∷
    refused (alone (0x10000_00000000 ∷ 0x10000_fffffff4 ∷ [])) MessageContainsOutOfBoundsPointer 1 ∷
    refused (alone (0x1a_fffffff9 ∷ 4 ∷ [])) MessageContainsOutOfBoundsPointer 0 ∷
    refused (alone (0x44 ∷ 0 ∷ [])) MessageContainsOutOfBoundsPointer 0 ∷
    refused ((0xa ∷ []) ∷ [] ∷ [] ∷ []) MessageContainsOutOfBoundsPointer 0 ∷
    refused ((0x1_00000006 ∷ []) ∷ (0x21 ∷ 0 ∷ 9 ∷ []) ∷ []) MessageContainsOutOfBoundsPointer 2 ∷
    refused ((0xffffffff_00000016 ∷ []) ∷ (2 ∷ 0x1_00000000 ∷ []) ∷ []) (InvalidSegmentId 4294967295) 0 ∷
    refused (alone (0xffffffff_00000001 ∷ 0x40003_00000000 ∷ [])) MessageContainsOutOfBoundsPointer 0 ∷
    refused (alone (0x1_0000000a ∷ [])) (InvalidSegmentId 1) 0 ∷
    refused (alone (0x11_80000005 ∷ 4 ∷ [])) MessageContainsOutOfBoundsPointer 0 ∷
    lacks (alone (0xf_00000001 ∷ 0x10000_ffffffff ∷ 0 ∷ 0 ∷ [])) InlineCompositeListsOfNonStructTypeAreNotSupported InlineCompositeListsOfNonStructTypeAreNotSupported CantHandleNonStructInlineComposite 2 ∷
    lacks (alone (0x17_00000001 ∷ 0xffffffff_00000007 ∷ 0 ∷ 0 ∷ [])) InlineCompositeListsOfNonStructTypeAreNotSupported InlineCompositeListsOfNonStructTypeAreNotSupported CantHandleNonStructInlineComposite 3 ∷
    refused (alone (0x10001_00000000 ∷ 0 ∷ 0x1_00000024 ∷ [])) MessageContainsOutOfBoundsPointer 2 ∷
    refused (alone (0x16_00000001 ∷ 0 ∷ 7 ∷ 0 ∷ [])) UnknownPointerType 2 ∷
    refused (alone (0xe_00000001 ∷ 0x2_fffffff4 ∷ [])) MessageContainsOutOfBoundsPointer 1 ∷
    refused (alone (0xffff_fffffffc ∷ 7 ∷ [])) MessageContainsOutOfBoundsPointer 0 ∷
    refused (alone (0x4030001_00000008 ∷ [])) MessageContainsOutOfBoundsPointer 0 ∷
    refused ((0x1_00000006 ∷ []) ∷ (0 ∷ 7 ∷ []) ∷ []) UnknownPointerType 2 ∷
    refused (alone (0x1b_fffffff9 ∷ 0xd4_00000003 ∷ 0x30001_80000000 ∷ [])) MessageContainsOutOfBoundsPointer 0 ∷
    refused (alone (0x3_0000001b ∷ [])) MessageContainsOutOfBoundsPointer 0 ∷
    refused ((0x2_0000000a ∷ []) ∷ [] ∷ [] ∷ []) MessageContainsOutOfBoundsPointer 0 ∷
    refused (alone (0x11_00000009 ∷ 4 ∷ [])) MessageContainsOutOfBoundsPointer 0 ∷
    refused (alone (0x1_00000004 ∷ [])) MessageContainsOutOfBoundsPointer 0 ∷
    refused ((0x1_00000006 ∷ []) ∷ (0x2_00000003 ∷ 0x1_00000134 ∷ 9 ∷ []) ∷ []) (InvalidSegmentId 2) 2 ∷
    lacks (alone (0x7_00000001 ∷ 0x1_0000000a ∷ 0 ∷ 0 ∷ [])) InlineCompositeListsOfNonStructTypeAreNotSupported InlineCompositeListsOfNonStructTypeAreNotSupported CantHandleNonStructInlineComposite 1 ∷
    refused (alone (0xffffffff ∷ [])) UnknownPointerType 0 ∷
    refused ((0xffffffff_00000006 ∷ []) ∷ (0x1_00000012 ∷ 0x49_00000015 ∷ 0xffff ∷ []) ∷ []) (InvalidSegmentId 4294967295) 0 ∷ []

abbrev pub refusals_2 : List Fact
refusals_2 =
    refused (alone (0xffff_00000004 ∷ 7 ∷ [])) MessageContainsOutOfBoundsPointer 0 ∷
    refused (alone (0x20030001_00000004 ∷ [])) MessageContainsOutOfBoundsPointer 0 ∷
    refused (alone (0xffffffff_00000002 ∷ 0 ∷ [])) (InvalidSegmentId 4294967295) 0 ∷
    refused (alone (0xffffffff ∷ 0 ∷ 0 ∷ [])) UnknownPointerType 0 ∷
    refused ((0x2_0000000a ∷ []) ∷ (0x1a_00000001 ∷ 0x1_ff030201 ∷ []) ∷ []) (InvalidSegmentId 2) 0 ∷
    lacks (alone (0xf_00000001 ∷ 0x1_00000005 ∷ 0 ∷ 0 ∷ [])) InlineCompositeListsOfNonStructTypeAreNotSupported InlineCompositeListsOfNonStructTypeAreNotSupported CantHandleNonStructInlineComposite 2 ∷
    refused ((0x644_7ffffffd ∷ []) ∷ (0x2b_00000015 ∷ 0 ∷ 0x30002_fffffff8 ∷ []) ∷ (0x206_fffffffd ∷ 0x10003_fffffffc ∷ 0 ∷ 3 ∷ 0x14 ∷ []) ∷ []) MessageContainsOutOfBoundsPointer 0 ∷
    refused ((0x1_00000006 ∷ []) ∷ (0x16 ∷ 0x1_00000134 ∷ 9 ∷ []) ∷ []) MessageContainsOutOfBoundsPointer 2 ∷
    refused (alone (0x13_00000005 ∷ 4 ∷ [])) MessageContainsOutOfBoundsPointer 0 ∷
    refused (alone (0xffffffff_00000004 ∷ 7 ∷ [])) MessageContainsOutOfBoundsPointer 0 ∷
    refused (alone (0x1a_80000001 ∷ 4 ∷ [])) MessageContainsOutOfBoundsPointer 0 ∷
    refused ((0x1_00000006 ∷ []) ∷ (0x2_fffffffe ∷ 0x1_00000134 ∷ 9 ∷ []) ∷ []) (InvalidSegmentId 2) 2 ∷
    refused (alone (0x410003_00000000 ∷ 0xffffffff_ffffffff ∷ 0x4_00000005 ∷ 0xe8 ∷ 0x12_00000001 ∷ 0x80000000_00000000 ∷ 0 ∷ [])) MessageContainsOutOfBoundsPointer 0 ∷
    refused (alone (0xffffffff_00000006 ∷ [])) (InvalidSegmentId 4294967295) 0 ∷
    refused (alone (0x1d_00000001 ∷ 4 ∷ [])) MessageContainsOutOfBoundsPointer 0 ∷
    lacks (alone (0xf_00000001 ∷ 1 ∷ 0 ∷ 0 ∷ [])) InlineCompositeListsOfNonStructTypeAreNotSupported InlineCompositeListsOfNonStructTypeAreNotSupported CantHandleNonStructInlineComposite 2 ∷
    refused ((0x1_00000006 ∷ []) ∷ (0x2_fffffffd ∷ 0 ∷ 9 ∷ []) ∷ []) (InvalidSegmentId 2) 2 ∷
    refused (alone (0x17_00000009 ∷ 4 ∷ [])) MessageContainsOutOfBoundsPointer 0 ∷
    refused ((2 ∷ []) ∷ (0x1_0000000e ∷ 0 ∷ 5 ∷ []) ∷ []) MalformedDoubleFarPointer 1 ∷
    refused ((0x1_00000006 ∷ []) ∷ (0x2_fffffffb ∷ 0x20_0000000d ∷ 9 ∷ []) ∷ []) (InvalidSegmentId 2) 2 ∷
    refused ((0x1_00000012 ∷ []) ∷ (2 ∷ 0x1_00000000 ∷ []) ∷ []) MessageContainsOutOfBoundsPointer 0 ∷
    lacks (alone (0xe_00000001 ∷ 0x10000_fffffffc ∷ [])) MessageIsTooDeeplyNestedOrContainsCycles MessageIsTooDeeplyNestedOrContainsCycles MessageIsTooDeeplyNested 64 ∷
    lacks (alone (0xe_00000001 ∷ 0x10000_fffffff8 ∷ [])) MessageIsTooDeeplyNestedOrContainsCycles MessageIsTooDeeplyNestedOrContainsCycles MessageIsTooDeeplyNested 64 ∷
    refused ((0x1_00000006 ∷ []) ∷ (0x2_00000014 ∷ 0x1_00000003 ∷ 9 ∷ []) ∷ []) (InvalidSegmentId 2) 2 ∷
    refused (alone (0x16_7ffffffd ∷ 4 ∷ [])) MessageContainsOutOfBoundsPointer 0 ∷
    refused (alone (0x4000007_00000001 ∷ 0x40003_00000000 ∷ [])) MessageContainsOutOfBoundsPointer 0 ∷
    refused (alone (0x1c_00000001 ∷ 0xffffffff_ffffffff ∷ [])) MessageContainsOutOfBoundsPointer 0 ∷
    refused ((0x1_00000006 ∷ []) ∷ (0x2_00000007 ∷ 0x20_0000000d ∷ 9 ∷ []) ∷ []) (InvalidSegmentId 2) 2 ∷
    refused (alone (0x8_fffffffc ∷ [])) MessageContainsOutOfBoundsPointer 0 ∷
    refused ((0x1_00000006 ∷ []) ∷ (0x2_00000001 ∷ 0x20_0000000d ∷ 9 ∷ []) ∷ []) (InvalidSegmentId 2) 2 ∷
    refused ((0xbd ∷ 3 ∷ 0xe_00000005 ∷ 0xb5977de5_8600b117 ∷ 0xd963ad20_a72692d3 ∷ 0x30003_fffffffc ∷ []) ∷ [] ∷ []) MessageContainsOutOfBoundsPointer 0 ∷
    refused (alone (0x10000_00000000 ∷ 0xd_fffffff5 ∷ [])) MessageContainsOutOfBoundsPointer 1 ∷
    lacks (alone (0x17_00000001 ∷ 0x1_00000006 ∷ 0 ∷ 0 ∷ [])) InlineCompositeListsOfNonStructTypeAreNotSupported InlineCompositeListsOfNonStructTypeAreNotSupported CantHandleNonStructInlineComposite 3 ∷
    refused (alone (0x11_7ffffff9 ∷ 4 ∷ [])) MessageContainsOutOfBoundsPointer 0 ∷
    refused (alone (0x17_7ffffff9 ∷ 4 ∷ [])) MessageContainsOutOfBoundsPointer 0 ∷
    refused (alone (0x400000_ffff7ffc ∷ [])) MessageContainsOutOfBoundsPointer 0 ∷
    refused ((0x1_00000006 ∷ []) ∷ (0x2_0000001e ∷ 0x1_00000134 ∷ 9 ∷ []) ∷ []) (InvalidSegmentId 2) 2 ∷
    refused ((0x2_fffffffa ∷ []) ∷ (0 ∷ []) ∷ []) (InvalidSegmentId 2) 0 ∷
    refused ((0x30001_7ffffffc ∷ 0xef ∷ 0x201_00000001 ∷ 0xf6236bc4_c76a3f37 ∷ []) ∷ (0x15_00000001 ∷ 0x30002_80000000 ∷ 0x207_00000009 ∷ []) ∷ [] ∷ []) MessageContainsOutOfBoundsPointer 0 ∷
    refused (alone (0xb_00000001 ∷ [])) MessageContainsOutOfBoundsPointer 0 ∷
    refused ((0xffffffff_fffffffe ∷ []) ∷ (0x1_00000012 ∷ 0x49_00000015 ∷ 0xffff ∷ []) ∷ []) (InvalidSegmentId 4294967295) 0 ∷
    refused (alone (0x3ffffef_00000001 ∷ 0x40003_00000000 ∷ [])) MessageContainsOutOfBoundsPointer 0 ∷
    refused ((0x1_00000006 ∷ []) ∷ (0 ∷ 0x80000003 ∷ []) ∷ []) UnknownPointerType 2 ∷
    refused ((0xffffffff_0000000e ∷ []) ∷ (0x1a_00000001 ∷ 0x1_ff030201 ∷ []) ∷ []) (InvalidSegmentId 4294967295) 0 ∷
    lacks (alone (0xf_00000001 ∷ 0x1_fffffffe ∷ 0 ∷ 0 ∷ [])) InlineCompositeListsOfNonStructTypeAreNotSupported InlineCompositeListsOfNonStructTypeAreNotSupported CantHandleNonStructInlineComposite 2 ∷
    refused (alone (0x13_80000001 ∷ 4 ∷ [])) MessageContainsOutOfBoundsPointer 0 ∷
    refused ((0xfffffffe ∷ []) ∷ (2 ∷ 0x1_00000000 ∷ []) ∷ []) MessageContainsOutOfBoundsPointer 0 ∷
    refused ((2 ∷ []) ∷ (0x1_00000012 ∷ 0x49_00000015 ∷ 0xffff ∷ []) ∷ []) MalformedDoubleFarPointer 1 ∷
    refused (alone (0x10000_00000000 ∷ 0x80007_00000001 ∷ 0 ∷ [])) MessageContainsOutOfBoundsPointer 1 ∷
    refused ((0x12 ∷ []) ∷ (0 ∷ []) ∷ []) MessageContainsOutOfBoundsPointer 0 ∷ []

abbrev pub refusals_3 : List Fact
refusals_3 =
    refused ((0x1_00000006 ∷ []) ∷ (0x2_0000000d ∷ 0x1_00000134 ∷ 9 ∷ []) ∷ []) (InvalidSegmentId 2) 2 ∷
    refused ((0x1_00000006 ∷ []) ∷ (0x2_00000012 ∷ 0x1_00000134 ∷ 9 ∷ []) ∷ []) (InvalidSegmentId 2) 2 ∷
    refused ((0xfffffffa ∷ []) ∷ (2 ∷ 0x1_00000000 ∷ []) ∷ []) MessageContainsOutOfBoundsPointer 0 ∷
    lacks (alone (0x7_00000001 ∷ 0x10000_00000002 ∷ 0 ∷ 0 ∷ [])) InlineCompositeListsOfNonStructTypeAreNotSupported InlineCompositeListsOfNonStructTypeAreNotSupported CantHandleNonStructInlineComposite 1 ∷
    refused (alone (0x10001_00000000 ∷ 4 ∷ 0x9_80000001 ∷ [])) MessageContainsOutOfBoundsPointer 2 ∷
    refused (alone (0xfffffffe ∷ 0 ∷ [])) MessageContainsOutOfBoundsPointer 0 ∷
    refused (alone (0x10000_00000000 ∷ 0xe_fffffff5 ∷ [])) MessageContainsOutOfBoundsPointer 1 ∷
    refused (alone (0x41_00000001 ∷ [])) MessageContainsOutOfBoundsPointer 0 ∷
    refused (alone (0x1_00000006 ∷ 0 ∷ [])) (InvalidSegmentId 1) 0 ∷
    refused (alone (0xffffffff_00000008 ∷ [])) MessageContainsOutOfBoundsPointer 0 ∷
    refused (alone (0x1_80000000 ∷ 7 ∷ [])) MessageContainsOutOfBoundsPointer 0 ∷
    refused (alone (0x2_0000000a ∷ [])) (InvalidSegmentId 2) 0 ∷
    refused (alone (0x8000001_00000004 ∷ [])) MessageContainsOutOfBoundsPointer 0 ∷
    refused (alone (0xe_00000001 ∷ 0x10001_80000000 ∷ [])) MessageContainsOutOfBoundsPointer 1 ∷
    refused (alone (0xe_00000005 ∷ 4 ∷ [])) MessageContainsOutOfBoundsPointer 0 ∷
    refused (alone (0x10000_00000000 ∷ 0x10001_fffffff4 ∷ [])) MessageContainsOutOfBoundsPointer 1 ∷
    refused (alone (0x1e_fffffff9 ∷ 4 ∷ [])) MessageContainsOutOfBoundsPointer 0 ∷
    refused ((0x1_00000006 ∷ []) ∷ (0x2_00000011 ∷ 0x1_00000003 ∷ 9 ∷ []) ∷ []) (InvalidSegmentId 2) 2 ∷
    refused (alone (6 ∷ [])) MessageContainsOutOfBoundsPointer 0 ∷
    refused (alone (0xffff0000_fffffffc ∷ [])) MessageContainsOutOfBoundsPointer 0 ∷
    refused ((0x2_00000002 ∷ []) ∷ (0x1a_00000001 ∷ 0x1_ff030201 ∷ []) ∷ []) (InvalidSegmentId 2) 0 ∷
    refused (alone (0x15_7ffffff9 ∷ 4 ∷ [])) MessageContainsOutOfBoundsPointer 0 ∷
    refused (alone (0x846_00000001 ∷ [])) MessageContainsOutOfBoundsPointer 0 ∷
    refused (alone (0x10000_00000000 ∷ 0xe_80000001 ∷ [])) MessageContainsOutOfBoundsPointer 1 ∷
    refused ((0x5_00000033 ∷ 0x10003_00000004 ∷ 0x2a ∷ 0x646_7ffffffd ∷ 0 ∷ []) ∷ [] ∷ []) MessageContainsOutOfBoundsPointer 0 ∷
    refused ((0x1_00000006 ∷ []) ∷ (0x2_00000026 ∷ 0x20_0000000d ∷ 9 ∷ []) ∷ []) (InvalidSegmentId 2) 2 ∷
    refused (alone (0x10001_00000008 ∷ 7 ∷ [])) MessageContainsOutOfBoundsPointer 0 ∷
    refused ((0x1_0000000e ∷ []) ∷ (0x3_00000003 ∷ 0x4_00000003 ∷ []) ∷ []) MessageContainsOutOfBoundsPointer 0 ∷
    refused ((0x1_00000006 ∷ []) ∷ (0x1_00000020 ∷ 0x1_00000134 ∷ 9 ∷ []) ∷ []) MessageContainsOutOfBoundsPointer 2 ∷
    refused (alone (0x10000_00000000 ∷ 0x20000_fffffff4 ∷ [])) MessageContainsOutOfBoundsPointer 1 ∷
    refused ((0x2_fffffffa ∷ []) ∷ (2 ∷ 0x1_00000000 ∷ []) ∷ []) (InvalidSegmentId 2) 0 ∷
    refused (alone (0x40000_0000001a ∷ 0x6c85a22_2172be68 ∷ 0x4d ∷ 0x2_fffffff4 ∷ [])) (InvalidSegmentId 262144) 0 ∷
    refused (alone (0x10002_80000000 ∷ 0xcb_00000003 ∷ 0x203_00000009 ∷ 0 ∷ 0 ∷ [])) MessageContainsOutOfBoundsPointer 0 ∷
    refused (alone (0x201_00000001 ∷ [])) MessageContainsOutOfBoundsPointer 0 ∷
    refused (alone (0x1_00000007 ∷ [])) MessageContainsOutOfBoundsPointer 0 ∷
    refused (alone (0x1f_00000001 ∷ 0x10001_00000004 ∷ 0 ∷ 0x1_00000024 ∷ 0 ∷ [])) MessageContainsOutOfBoundsPointer 4 ∷
    refused ((0x1_00000006 ∷ []) ∷ (0 ∷ 0xffffffff ∷ []) ∷ []) UnknownPointerType 2 ∷
    refused (alone (0xe_00000001 ∷ 0x20000_fffffffc ∷ [])) MessageContainsOutOfBoundsPointer 1 ∷
    refused (alone (0xa ∷ [])) MessageContainsOutOfBoundsPointer 0 ∷
    refused ((0x1_00000006 ∷ []) ∷ (0x2_00000017 ∷ 0x1_00000134 ∷ 9 ∷ []) ∷ []) (InvalidSegmentId 2) 2 ∷
    refused (alone (0x1_7ffffffd ∷ [])) MessageContainsOutOfBoundsPointer 0 ∷
    refused ((0x20000_00000000 ∷ 0 ∷ 0x20000_00000000 ∷ []) ∷ [] ∷ []) MessageContainsOutOfBoundsPointer 2 ∷
    lacks (alone (0xf_00000001 ∷ 0xfffffffd ∷ 0 ∷ 0 ∷ [])) InlineCompositeListsOfNonStructTypeAreNotSupported InlineCompositeListsOfNonStructTypeAreNotSupported CantHandleNonStructInlineComposite 2 ∷
    refused ((0x2_00000002 ∷ []) ∷ (2 ∷ 0x1_00000000 ∷ []) ∷ []) (InvalidSegmentId 2) 0 ∷
    refused ((0x1_00000006 ∷ []) ∷ (0x1_0000001d ∷ 0x1_00000134 ∷ 9 ∷ []) ∷ []) MessageContainsOutOfBoundsPointer 2 ∷
    refused ((0x1_00000006 ∷ []) ∷ (0 ∷ 0xb ∷ []) ∷ []) UnknownPointerType 2 ∷
    refused (alone (0x1b_fffffff9 ∷ 4 ∷ [])) MessageContainsOutOfBoundsPointer 0 ∷
    refused ((0x1_00000006 ∷ []) ∷ (8 ∷ 0x1_00000134 ∷ 9 ∷ []) ∷ []) MessageContainsOutOfBoundsPointer 2 ∷
    lacks (alone (0x20001_00000000 ∷ 0 ∷ 0x1_00000003 ∷ 0x1_00000024 ∷ [])) MessageContainsOutOfBoundsPointer CannotCreateACanonicalMessageWithACapability MessageContainsOutOfBoundsPointer 3 ∷
    refused (alone (0x6_7ffffff9 ∷ 4 ∷ [])) MessageContainsOutOfBoundsPointer 0 ∷ []
