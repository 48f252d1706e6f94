-- Written by tools/entity_tables from Python's html.entities. Do not edit.
use Rattle.std.specs.Prelude.{ℕ, List, [], ◌∷◌, ◌==◌, codes, if◌then◌else◌}
use Rattle.markdown_entities.specs.Rows.{Row, row}

abbrev pub large_a : List Row
large_a =
    row (codes "AElig") 198 0 ∷ row (codes "AMP") 38 0 ∷ row (codes "Aacute") 193 0 ∷ row (codes "Abreve") 258 0 ∷
    row (codes "Acirc") 194 0 ∷ row (codes "Acy") 1040 0 ∷ row (codes "Afr") 120068 0 ∷ row (codes "Agrave") 192 0 ∷
    row (codes "Alpha") 913 0 ∷ row (codes "Amacr") 256 0 ∷ row (codes "And") 10835 0 ∷ row (codes "Aogon") 260 0 ∷
    row (codes "Aopf") 120120 0 ∷ row (codes "ApplyFunction") 8289 0 ∷ row (codes "Aring") 197 0 ∷ row (codes "Ascr") 119964 0 ∷
    row (codes "Assign") 8788 0 ∷ row (codes "Atilde") 195 0 ∷ row (codes "Auml") 196 0 ∷ []

abbrev pub large_b : List Row
large_b =
    row (codes "Backslash") 8726 0 ∷ row (codes "Barv") 10983 0 ∷ row (codes "Barwed") 8966 0 ∷ row (codes "Bcy") 1041 0 ∷
    row (codes "Because") 8757 0 ∷ row (codes "Bernoullis") 8492 0 ∷ row (codes "Beta") 914 0 ∷ row (codes "Bfr") 120069 0 ∷
    row (codes "Bopf") 120121 0 ∷ row (codes "Breve") 728 0 ∷ row (codes "Bscr") 8492 0 ∷ row (codes "Bumpeq") 8782 0 ∷ []

abbrev pub large_c : List Row
large_c =
    row (codes "CHcy") 1063 0 ∷ row (codes "COPY") 169 0 ∷ row (codes "Cacute") 262 0 ∷ row (codes "Cap") 8914 0 ∷
    row (codes "CapitalDifferentialD") 8517 0 ∷ row (codes "Cayleys") 8493 0 ∷ row (codes "Ccaron") 268 0 ∷ row (codes "Ccedil") 199 0 ∷
    row (codes "Ccirc") 264 0 ∷ row (codes "Cconint") 8752 0 ∷ row (codes "Cdot") 266 0 ∷ row (codes "Cedilla") 184 0 ∷
    row (codes "CenterDot") 183 0 ∷ row (codes "Cfr") 8493 0 ∷ row (codes "Chi") 935 0 ∷ row (codes "CircleDot") 8857 0 ∷
    row (codes "CircleMinus") 8854 0 ∷ row (codes "CirclePlus") 8853 0 ∷ row (codes "CircleTimes") 8855 0 ∷
    row (codes "ClockwiseContourIntegral") 8754 0 ∷ row (codes "CloseCurlyDoubleQuote") 8221 0 ∷ row (codes "CloseCurlyQuote") 8217 0 ∷
    row (codes "Colon") 8759 0 ∷ row (codes "Colone") 10868 0 ∷ row (codes "Congruent") 8801 0 ∷ row (codes "Conint") 8751 0 ∷
    row (codes "ContourIntegral") 8750 0 ∷ row (codes "Copf") 8450 0 ∷ row (codes "Coproduct") 8720 0 ∷
    row (codes "CounterClockwiseContourIntegral") 8755 0 ∷ row (codes "Cross") 10799 0 ∷ row (codes "Cscr") 119966 0 ∷
    row (codes "Cup") 8915 0 ∷ row (codes "CupCap") 8781 0 ∷ []

abbrev pub large_d : List Row
large_d =
    row (codes "DD") 8517 0 ∷ row (codes "DDotrahd") 10513 0 ∷ row (codes "DJcy") 1026 0 ∷ row (codes "DScy") 1029 0 ∷
    row (codes "DZcy") 1039 0 ∷ row (codes "Dagger") 8225 0 ∷ row (codes "Darr") 8609 0 ∷ row (codes "Dashv") 10980 0 ∷
    row (codes "Dcaron") 270 0 ∷ row (codes "Dcy") 1044 0 ∷ row (codes "Del") 8711 0 ∷ row (codes "Delta") 916 0 ∷
    row (codes "Dfr") 120071 0 ∷ row (codes "DiacriticalAcute") 180 0 ∷ row (codes "DiacriticalDot") 729 0 ∷
    row (codes "DiacriticalDoubleAcute") 733 0 ∷ row (codes "DiacriticalGrave") 96 0 ∷ row (codes "DiacriticalTilde") 732 0 ∷
    row (codes "Diamond") 8900 0 ∷ row (codes "DifferentialD") 8518 0 ∷ row (codes "Dopf") 120123 0 ∷ row (codes "Dot") 168 0 ∷
    row (codes "DotDot") 8412 0 ∷ row (codes "DotEqual") 8784 0 ∷ row (codes "DoubleContourIntegral") 8751 0 ∷
    row (codes "DoubleDot") 168 0 ∷ row (codes "DoubleDownArrow") 8659 0 ∷ row (codes "DoubleLeftArrow") 8656 0 ∷
    row (codes "DoubleLeftRightArrow") 8660 0 ∷ row (codes "DoubleLeftTee") 10980 0 ∷ row (codes "DoubleLongLeftArrow") 10232 0 ∷
    row (codes "DoubleLongLeftRightArrow") 10234 0 ∷ row (codes "DoubleLongRightArrow") 10233 0 ∷ row (codes "DoubleRightArrow") 8658 0 ∷
    row (codes "DoubleRightTee") 8872 0 ∷ row (codes "DoubleUpArrow") 8657 0 ∷ row (codes "DoubleUpDownArrow") 8661 0 ∷
    row (codes "DoubleVerticalBar") 8741 0 ∷ row (codes "DownArrow") 8595 0 ∷ row (codes "DownArrowBar") 10515 0 ∷
    row (codes "DownArrowUpArrow") 8693 0 ∷ row (codes "DownBreve") 785 0 ∷ row (codes "DownLeftRightVector") 10576 0 ∷
    row (codes "DownLeftTeeVector") 10590 0 ∷ row (codes "DownLeftVector") 8637 0 ∷ row (codes "DownLeftVectorBar") 10582 0 ∷
    row (codes "DownRightTeeVector") 10591 0 ∷ row (codes "DownRightVector") 8641 0 ∷ row (codes "DownRightVectorBar") 10583 0 ∷
    row (codes "DownTee") 8868 0 ∷ row (codes "DownTeeArrow") 8615 0 ∷ row (codes "Downarrow") 8659 0 ∷ row (codes "Dscr") 119967 0 ∷
    row (codes "Dstrok") 272 0 ∷ []

abbrev pub large_e : List Row
large_e =
    row (codes "ENG") 330 0 ∷ row (codes "ETH") 208 0 ∷ row (codes "Eacute") 201 0 ∷ row (codes "Ecaron") 282 0 ∷
    row (codes "Ecirc") 202 0 ∷ row (codes "Ecy") 1069 0 ∷ row (codes "Edot") 278 0 ∷ row (codes "Efr") 120072 0 ∷
    row (codes "Egrave") 200 0 ∷ row (codes "Element") 8712 0 ∷ row (codes "Emacr") 274 0 ∷ row (codes "EmptySmallSquare") 9723 0 ∷
    row (codes "EmptyVerySmallSquare") 9643 0 ∷ row (codes "Eogon") 280 0 ∷ row (codes "Eopf") 120124 0 ∷ row (codes "Epsilon") 917 0 ∷
    row (codes "Equal") 10869 0 ∷ row (codes "EqualTilde") 8770 0 ∷ row (codes "Equilibrium") 8652 0 ∷ row (codes "Escr") 8496 0 ∷
    row (codes "Esim") 10867 0 ∷ row (codes "Eta") 919 0 ∷ row (codes "Euml") 203 0 ∷ row (codes "Exists") 8707 0 ∷
    row (codes "ExponentialE") 8519 0 ∷ []

abbrev pub large_f : List Row
large_f =
    row (codes "Fcy") 1060 0 ∷ row (codes "Ffr") 120073 0 ∷ row (codes "FilledSmallSquare") 9724 0 ∷
    row (codes "FilledVerySmallSquare") 9642 0 ∷ row (codes "Fopf") 120125 0 ∷ row (codes "ForAll") 8704 0 ∷
    row (codes "Fouriertrf") 8497 0 ∷ row (codes "Fscr") 8497 0 ∷ []

abbrev pub large_g : List Row
large_g =
    row (codes "GJcy") 1027 0 ∷ row (codes "GT") 62 0 ∷ row (codes "Gamma") 915 0 ∷ row (codes "Gammad") 988 0 ∷
    row (codes "Gbreve") 286 0 ∷ row (codes "Gcedil") 290 0 ∷ row (codes "Gcirc") 284 0 ∷ row (codes "Gcy") 1043 0 ∷
    row (codes "Gdot") 288 0 ∷ row (codes "Gfr") 120074 0 ∷ row (codes "Gg") 8921 0 ∷ row (codes "Gopf") 120126 0 ∷
    row (codes "GreaterEqual") 8805 0 ∷ row (codes "GreaterEqualLess") 8923 0 ∷ row (codes "GreaterFullEqual") 8807 0 ∷
    row (codes "GreaterGreater") 10914 0 ∷ row (codes "GreaterLess") 8823 0 ∷ row (codes "GreaterSlantEqual") 10878 0 ∷
    row (codes "GreaterTilde") 8819 0 ∷ row (codes "Gscr") 119970 0 ∷ row (codes "Gt") 8811 0 ∷ []

abbrev pub large_h : List Row
large_h =
    row (codes "HARDcy") 1066 0 ∷ row (codes "Hacek") 711 0 ∷ row (codes "Hat") 94 0 ∷ row (codes "Hcirc") 292 0 ∷
    row (codes "Hfr") 8460 0 ∷ row (codes "HilbertSpace") 8459 0 ∷ row (codes "Hopf") 8461 0 ∷ row (codes "HorizontalLine") 9472 0 ∷
    row (codes "Hscr") 8459 0 ∷ row (codes "Hstrok") 294 0 ∷ row (codes "HumpDownHump") 8782 0 ∷ row (codes "HumpEqual") 8783 0 ∷ []

abbrev pub large_i : List Row
large_i =
    row (codes "IEcy") 1045 0 ∷ row (codes "IJlig") 306 0 ∷ row (codes "IOcy") 1025 0 ∷ row (codes "Iacute") 205 0 ∷
    row (codes "Icirc") 206 0 ∷ row (codes "Icy") 1048 0 ∷ row (codes "Idot") 304 0 ∷ row (codes "Ifr") 8465 0 ∷
    row (codes "Igrave") 204 0 ∷ row (codes "Im") 8465 0 ∷ row (codes "Imacr") 298 0 ∷ row (codes "ImaginaryI") 8520 0 ∷
    row (codes "Implies") 8658 0 ∷ row (codes "Int") 8748 0 ∷ row (codes "Integral") 8747 0 ∷ row (codes "Intersection") 8898 0 ∷
    row (codes "InvisibleComma") 8291 0 ∷ row (codes "InvisibleTimes") 8290 0 ∷ row (codes "Iogon") 302 0 ∷ row (codes "Iopf") 120128 0 ∷
    row (codes "Iota") 921 0 ∷ row (codes "Iscr") 8464 0 ∷ row (codes "Itilde") 296 0 ∷ row (codes "Iukcy") 1030 0 ∷
    row (codes "Iuml") 207 0 ∷ []

abbrev pub large_j : List Row
large_j =
    row (codes "Jcirc") 308 0 ∷ row (codes "Jcy") 1049 0 ∷ row (codes "Jfr") 120077 0 ∷ row (codes "Jopf") 120129 0 ∷
    row (codes "Jscr") 119973 0 ∷ row (codes "Jsercy") 1032 0 ∷ row (codes "Jukcy") 1028 0 ∷ []

abbrev pub large_k : List Row
large_k =
    row (codes "KHcy") 1061 0 ∷ row (codes "KJcy") 1036 0 ∷ row (codes "Kappa") 922 0 ∷ row (codes "Kcedil") 310 0 ∷
    row (codes "Kcy") 1050 0 ∷ row (codes "Kfr") 120078 0 ∷ row (codes "Kopf") 120130 0 ∷ row (codes "Kscr") 119974 0 ∷ []

abbrev pub large_l : List Row
large_l =
    row (codes "LJcy") 1033 0 ∷ row (codes "LT") 60 0 ∷ row (codes "Lacute") 313 0 ∷ row (codes "Lambda") 923 0 ∷
    row (codes "Lang") 10218 0 ∷ row (codes "Laplacetrf") 8466 0 ∷ row (codes "Larr") 8606 0 ∷ row (codes "Lcaron") 317 0 ∷
    row (codes "Lcedil") 315 0 ∷ row (codes "Lcy") 1051 0 ∷ row (codes "LeftAngleBracket") 10216 0 ∷ row (codes "LeftArrow") 8592 0 ∷
    row (codes "LeftArrowBar") 8676 0 ∷ row (codes "LeftArrowRightArrow") 8646 0 ∷ row (codes "LeftCeiling") 8968 0 ∷
    row (codes "LeftDoubleBracket") 10214 0 ∷ row (codes "LeftDownTeeVector") 10593 0 ∷ row (codes "LeftDownVector") 8643 0 ∷
    row (codes "LeftDownVectorBar") 10585 0 ∷ row (codes "LeftFloor") 8970 0 ∷ row (codes "LeftRightArrow") 8596 0 ∷
    row (codes "LeftRightVector") 10574 0 ∷ row (codes "LeftTee") 8867 0 ∷ row (codes "LeftTeeArrow") 8612 0 ∷
    row (codes "LeftTeeVector") 10586 0 ∷ row (codes "LeftTriangle") 8882 0 ∷ row (codes "LeftTriangleBar") 10703 0 ∷
    row (codes "LeftTriangleEqual") 8884 0 ∷ row (codes "LeftUpDownVector") 10577 0 ∷ row (codes "LeftUpTeeVector") 10592 0 ∷
    row (codes "LeftUpVector") 8639 0 ∷ row (codes "LeftUpVectorBar") 10584 0 ∷ row (codes "LeftVector") 8636 0 ∷
    row (codes "LeftVectorBar") 10578 0 ∷ row (codes "Leftarrow") 8656 0 ∷ row (codes "Leftrightarrow") 8660 0 ∷
    row (codes "LessEqualGreater") 8922 0 ∷ row (codes "LessFullEqual") 8806 0 ∷ row (codes "LessGreater") 8822 0 ∷
    row (codes "LessLess") 10913 0 ∷ row (codes "LessSlantEqual") 10877 0 ∷ row (codes "LessTilde") 8818 0 ∷ row (codes "Lfr") 120079 0 ∷
    row (codes "Ll") 8920 0 ∷ row (codes "Lleftarrow") 8666 0 ∷ row (codes "Lmidot") 319 0 ∷ row (codes "LongLeftArrow") 10229 0 ∷
    row (codes "LongLeftRightArrow") 10231 0 ∷ row (codes "LongRightArrow") 10230 0 ∷ row (codes "Longleftarrow") 10232 0 ∷
    row (codes "Longleftrightarrow") 10234 0 ∷ row (codes "Longrightarrow") 10233 0 ∷ row (codes "Lopf") 120131 0 ∷
    row (codes "LowerLeftArrow") 8601 0 ∷ row (codes "LowerRightArrow") 8600 0 ∷ row (codes "Lscr") 8466 0 ∷ row (codes "Lsh") 8624 0 ∷
    row (codes "Lstrok") 321 0 ∷ row (codes "Lt") 8810 0 ∷ []

abbrev pub large_m : List Row
large_m =
    row (codes "Map") 10501 0 ∷ row (codes "Mcy") 1052 0 ∷ row (codes "MediumSpace") 8287 0 ∷ row (codes "Mellintrf") 8499 0 ∷
    row (codes "Mfr") 120080 0 ∷ row (codes "MinusPlus") 8723 0 ∷ row (codes "Mopf") 120132 0 ∷ row (codes "Mscr") 8499 0 ∷
    row (codes "Mu") 924 0 ∷ []

abbrev pub large_n : List Row
large_n =
    row (codes "NJcy") 1034 0 ∷ row (codes "Nacute") 323 0 ∷ row (codes "Ncaron") 327 0 ∷ row (codes "Ncedil") 325 0 ∷
    row (codes "Ncy") 1053 0 ∷ row (codes "NegativeMediumSpace") 8203 0 ∷ row (codes "NegativeThickSpace") 8203 0 ∷
    row (codes "NegativeThinSpace") 8203 0 ∷ row (codes "NegativeVeryThinSpace") 8203 0 ∷ row (codes "NestedGreaterGreater") 8811 0 ∷
    row (codes "NestedLessLess") 8810 0 ∷ row (codes "NewLine") 10 0 ∷ row (codes "Nfr") 120081 0 ∷ row (codes "NoBreak") 8288 0 ∷
    row (codes "NonBreakingSpace") 160 0 ∷ row (codes "Nopf") 8469 0 ∷ row (codes "Not") 10988 0 ∷ row (codes "NotCongruent") 8802 0 ∷
    row (codes "NotCupCap") 8813 0 ∷ row (codes "NotDoubleVerticalBar") 8742 0 ∷ row (codes "NotElement") 8713 0 ∷
    row (codes "NotEqual") 8800 0 ∷ row (codes "NotEqualTilde") 8770 824 ∷ row (codes "NotExists") 8708 0 ∷
    row (codes "NotGreater") 8815 0 ∷ row (codes "NotGreaterEqual") 8817 0 ∷ row (codes "NotGreaterFullEqual") 8807 824 ∷
    row (codes "NotGreaterGreater") 8811 824 ∷ row (codes "NotGreaterLess") 8825 0 ∷ row (codes "NotGreaterSlantEqual") 10878 824 ∷
    row (codes "NotGreaterTilde") 8821 0 ∷ row (codes "NotHumpDownHump") 8782 824 ∷ row (codes "NotHumpEqual") 8783 824 ∷
    row (codes "NotLeftTriangle") 8938 0 ∷ row (codes "NotLeftTriangleBar") 10703 824 ∷ row (codes "NotLeftTriangleEqual") 8940 0 ∷
    row (codes "NotLess") 8814 0 ∷ row (codes "NotLessEqual") 8816 0 ∷ row (codes "NotLessGreater") 8824 0 ∷
    row (codes "NotLessLess") 8810 824 ∷ row (codes "NotLessSlantEqual") 10877 824 ∷ row (codes "NotLessTilde") 8820 0 ∷
    row (codes "NotNestedGreaterGreater") 10914 824 ∷ row (codes "NotNestedLessLess") 10913 824 ∷ row (codes "NotPrecedes") 8832 0 ∷
    row (codes "NotPrecedesEqual") 10927 824 ∷ row (codes "NotPrecedesSlantEqual") 8928 0 ∷ row (codes "NotReverseElement") 8716 0 ∷
    row (codes "NotRightTriangle") 8939 0 ∷ row (codes "NotRightTriangleBar") 10704 824 ∷ row (codes "NotRightTriangleEqual") 8941 0 ∷
    row (codes "NotSquareSubset") 8847 824 ∷ row (codes "NotSquareSubsetEqual") 8930 0 ∷ row (codes "NotSquareSuperset") 8848 824 ∷
    row (codes "NotSquareSupersetEqual") 8931 0 ∷ row (codes "NotSubset") 8834 8402 ∷ row (codes "NotSubsetEqual") 8840 0 ∷
    row (codes "NotSucceeds") 8833 0 ∷ row (codes "NotSucceedsEqual") 10928 824 ∷ row (codes "NotSucceedsSlantEqual") 8929 0 ∷
    row (codes "NotSucceedsTilde") 8831 824 ∷ row (codes "NotSuperset") 8835 8402 ∷ row (codes "NotSupersetEqual") 8841 0 ∷
    row (codes "NotTilde") 8769 0 ∷ row (codes "NotTildeEqual") 8772 0 ∷ row (codes "NotTildeFullEqual") 8775 0 ∷
    row (codes "NotTildeTilde") 8777 0 ∷ row (codes "NotVerticalBar") 8740 0 ∷ row (codes "Nscr") 119977 0 ∷ row (codes "Ntilde") 209 0 ∷
    row (codes "Nu") 925 0 ∷ []

abbrev pub large_o : List Row
large_o =
    row (codes "OElig") 338 0 ∷ row (codes "Oacute") 211 0 ∷ row (codes "Ocirc") 212 0 ∷ row (codes "Ocy") 1054 0 ∷
    row (codes "Odblac") 336 0 ∷ row (codes "Ofr") 120082 0 ∷ row (codes "Ograve") 210 0 ∷ row (codes "Omacr") 332 0 ∷
    row (codes "Omega") 937 0 ∷ row (codes "Omicron") 927 0 ∷ row (codes "Oopf") 120134 0 ∷ row (codes "OpenCurlyDoubleQuote") 8220 0 ∷
    row (codes "OpenCurlyQuote") 8216 0 ∷ row (codes "Or") 10836 0 ∷ row (codes "Oscr") 119978 0 ∷ row (codes "Oslash") 216 0 ∷
    row (codes "Otilde") 213 0 ∷ row (codes "Otimes") 10807 0 ∷ row (codes "Ouml") 214 0 ∷ row (codes "OverBar") 8254 0 ∷
    row (codes "OverBrace") 9182 0 ∷ row (codes "OverBracket") 9140 0 ∷ row (codes "OverParenthesis") 9180 0 ∷ []

abbrev pub large_p : List Row
large_p =
    row (codes "PartialD") 8706 0 ∷ row (codes "Pcy") 1055 0 ∷ row (codes "Pfr") 120083 0 ∷ row (codes "Phi") 934 0 ∷
    row (codes "Pi") 928 0 ∷ row (codes "PlusMinus") 177 0 ∷ row (codes "Poincareplane") 8460 0 ∷ row (codes "Popf") 8473 0 ∷
    row (codes "Pr") 10939 0 ∷ row (codes "Precedes") 8826 0 ∷ row (codes "PrecedesEqual") 10927 0 ∷
    row (codes "PrecedesSlantEqual") 8828 0 ∷ row (codes "PrecedesTilde") 8830 0 ∷ row (codes "Prime") 8243 0 ∷
    row (codes "Product") 8719 0 ∷ row (codes "Proportion") 8759 0 ∷ row (codes "Proportional") 8733 0 ∷ row (codes "Pscr") 119979 0 ∷
    row (codes "Psi") 936 0 ∷ []

abbrev pub large_q : List Row
large_q =
    row (codes "QUOT") 34 0 ∷ row (codes "Qfr") 120084 0 ∷ row (codes "Qopf") 8474 0 ∷ row (codes "Qscr") 119980 0 ∷ []

abbrev pub large_r : List Row
large_r =
    row (codes "RBarr") 10512 0 ∷ row (codes "REG") 174 0 ∷ row (codes "Racute") 340 0 ∷ row (codes "Rang") 10219 0 ∷
    row (codes "Rarr") 8608 0 ∷ row (codes "Rarrtl") 10518 0 ∷ row (codes "Rcaron") 344 0 ∷ row (codes "Rcedil") 342 0 ∷
    row (codes "Rcy") 1056 0 ∷ row (codes "Re") 8476 0 ∷ row (codes "ReverseElement") 8715 0 ∷ row (codes "ReverseEquilibrium") 8651 0 ∷
    row (codes "ReverseUpEquilibrium") 10607 0 ∷ row (codes "Rfr") 8476 0 ∷ row (codes "Rho") 929 0 ∷
    row (codes "RightAngleBracket") 10217 0 ∷ row (codes "RightArrow") 8594 0 ∷ row (codes "RightArrowBar") 8677 0 ∷
    row (codes "RightArrowLeftArrow") 8644 0 ∷ row (codes "RightCeiling") 8969 0 ∷ row (codes "RightDoubleBracket") 10215 0 ∷
    row (codes "RightDownTeeVector") 10589 0 ∷ row (codes "RightDownVector") 8642 0 ∷ row (codes "RightDownVectorBar") 10581 0 ∷
    row (codes "RightFloor") 8971 0 ∷ row (codes "RightTee") 8866 0 ∷ row (codes "RightTeeArrow") 8614 0 ∷
    row (codes "RightTeeVector") 10587 0 ∷ row (codes "RightTriangle") 8883 0 ∷ row (codes "RightTriangleBar") 10704 0 ∷
    row (codes "RightTriangleEqual") 8885 0 ∷ row (codes "RightUpDownVector") 10575 0 ∷ row (codes "RightUpTeeVector") 10588 0 ∷
    row (codes "RightUpVector") 8638 0 ∷ row (codes "RightUpVectorBar") 10580 0 ∷ row (codes "RightVector") 8640 0 ∷
    row (codes "RightVectorBar") 10579 0 ∷ row (codes "Rightarrow") 8658 0 ∷ row (codes "Ropf") 8477 0 ∷
    row (codes "RoundImplies") 10608 0 ∷ row (codes "Rrightarrow") 8667 0 ∷ row (codes "Rscr") 8475 0 ∷ row (codes "Rsh") 8625 0 ∷
    row (codes "RuleDelayed") 10740 0 ∷ []

abbrev pub large_s : List Row
large_s =
    row (codes "SHCHcy") 1065 0 ∷ row (codes "SHcy") 1064 0 ∷ row (codes "SOFTcy") 1068 0 ∷ row (codes "Sacute") 346 0 ∷
    row (codes "Sc") 10940 0 ∷ row (codes "Scaron") 352 0 ∷ row (codes "Scedil") 350 0 ∷ row (codes "Scirc") 348 0 ∷
    row (codes "Scy") 1057 0 ∷ row (codes "Sfr") 120086 0 ∷ row (codes "ShortDownArrow") 8595 0 ∷ row (codes "ShortLeftArrow") 8592 0 ∷
    row (codes "ShortRightArrow") 8594 0 ∷ row (codes "ShortUpArrow") 8593 0 ∷ row (codes "Sigma") 931 0 ∷
    row (codes "SmallCircle") 8728 0 ∷ row (codes "Sopf") 120138 0 ∷ row (codes "Sqrt") 8730 0 ∷ row (codes "Square") 9633 0 ∷
    row (codes "SquareIntersection") 8851 0 ∷ row (codes "SquareSubset") 8847 0 ∷ row (codes "SquareSubsetEqual") 8849 0 ∷
    row (codes "SquareSuperset") 8848 0 ∷ row (codes "SquareSupersetEqual") 8850 0 ∷ row (codes "SquareUnion") 8852 0 ∷
    row (codes "Sscr") 119982 0 ∷ row (codes "Star") 8902 0 ∷ row (codes "Sub") 8912 0 ∷ row (codes "Subset") 8912 0 ∷
    row (codes "SubsetEqual") 8838 0 ∷ row (codes "Succeeds") 8827 0 ∷ row (codes "SucceedsEqual") 10928 0 ∷
    row (codes "SucceedsSlantEqual") 8829 0 ∷ row (codes "SucceedsTilde") 8831 0 ∷ row (codes "SuchThat") 8715 0 ∷
    row (codes "Sum") 8721 0 ∷ row (codes "Sup") 8913 0 ∷ row (codes "Superset") 8835 0 ∷ row (codes "SupersetEqual") 8839 0 ∷
    row (codes "Supset") 8913 0 ∷ []

abbrev pub large_t : List Row
large_t =
    row (codes "THORN") 222 0 ∷ row (codes "TRADE") 8482 0 ∷ row (codes "TSHcy") 1035 0 ∷ row (codes "TScy") 1062 0 ∷
    row (codes "Tab") 9 0 ∷ row (codes "Tau") 932 0 ∷ row (codes "Tcaron") 356 0 ∷ row (codes "Tcedil") 354 0 ∷ row (codes "Tcy") 1058 0 ∷
    row (codes "Tfr") 120087 0 ∷ row (codes "Therefore") 8756 0 ∷ row (codes "Theta") 920 0 ∷ row (codes "ThickSpace") 8287 8202 ∷
    row (codes "ThinSpace") 8201 0 ∷ row (codes "Tilde") 8764 0 ∷ row (codes "TildeEqual") 8771 0 ∷ row (codes "TildeFullEqual") 8773 0 ∷
    row (codes "TildeTilde") 8776 0 ∷ row (codes "Topf") 120139 0 ∷ row (codes "TripleDot") 8411 0 ∷ row (codes "Tscr") 119983 0 ∷
    row (codes "Tstrok") 358 0 ∷ []

abbrev pub large_u : List Row
large_u =
    row (codes "Uacute") 218 0 ∷ row (codes "Uarr") 8607 0 ∷ row (codes "Uarrocir") 10569 0 ∷ row (codes "Ubrcy") 1038 0 ∷
    row (codes "Ubreve") 364 0 ∷ row (codes "Ucirc") 219 0 ∷ row (codes "Ucy") 1059 0 ∷ row (codes "Udblac") 368 0 ∷
    row (codes "Ufr") 120088 0 ∷ row (codes "Ugrave") 217 0 ∷ row (codes "Umacr") 362 0 ∷ row (codes "UnderBar") 95 0 ∷
    row (codes "UnderBrace") 9183 0 ∷ row (codes "UnderBracket") 9141 0 ∷ row (codes "UnderParenthesis") 9181 0 ∷
    row (codes "Union") 8899 0 ∷ row (codes "UnionPlus") 8846 0 ∷ row (codes "Uogon") 370 0 ∷ row (codes "Uopf") 120140 0 ∷
    row (codes "UpArrow") 8593 0 ∷ row (codes "UpArrowBar") 10514 0 ∷ row (codes "UpArrowDownArrow") 8645 0 ∷
    row (codes "UpDownArrow") 8597 0 ∷ row (codes "UpEquilibrium") 10606 0 ∷ row (codes "UpTee") 8869 0 ∷ row (codes "UpTeeArrow") 8613 0 ∷
    row (codes "Uparrow") 8657 0 ∷ row (codes "Updownarrow") 8661 0 ∷ row (codes "UpperLeftArrow") 8598 0 ∷
    row (codes "UpperRightArrow") 8599 0 ∷ row (codes "Upsi") 978 0 ∷ row (codes "Upsilon") 933 0 ∷ row (codes "Uring") 366 0 ∷
    row (codes "Uscr") 119984 0 ∷ row (codes "Utilde") 360 0 ∷ row (codes "Uuml") 220 0 ∷ []

abbrev pub large_v : List Row
large_v =
    row (codes "VDash") 8875 0 ∷ row (codes "Vbar") 10987 0 ∷ row (codes "Vcy") 1042 0 ∷ row (codes "Vdash") 8873 0 ∷
    row (codes "Vdashl") 10982 0 ∷ row (codes "Vee") 8897 0 ∷ row (codes "Verbar") 8214 0 ∷ row (codes "Vert") 8214 0 ∷
    row (codes "VerticalBar") 8739 0 ∷ row (codes "VerticalLine") 124 0 ∷ row (codes "VerticalSeparator") 10072 0 ∷
    row (codes "VerticalTilde") 8768 0 ∷ row (codes "VeryThinSpace") 8202 0 ∷ row (codes "Vfr") 120089 0 ∷ row (codes "Vopf") 120141 0 ∷
    row (codes "Vscr") 119985 0 ∷ row (codes "Vvdash") 8874 0 ∷ []

abbrev pub large_w : List Row
large_w =
    row (codes "Wcirc") 372 0 ∷ row (codes "Wedge") 8896 0 ∷ row (codes "Wfr") 120090 0 ∷ row (codes "Wopf") 120142 0 ∷
    row (codes "Wscr") 119986 0 ∷ []

abbrev pub large_x : List Row
large_x =
    row (codes "Xfr") 120091 0 ∷ row (codes "Xi") 926 0 ∷ row (codes "Xopf") 120143 0 ∷ row (codes "Xscr") 119987 0 ∷ []

abbrev pub large_y : List Row
large_y =
    row (codes "YAcy") 1071 0 ∷ row (codes "YIcy") 1031 0 ∷ row (codes "YUcy") 1070 0 ∷ row (codes "Yacute") 221 0 ∷
    row (codes "Ycirc") 374 0 ∷ row (codes "Ycy") 1067 0 ∷ row (codes "Yfr") 120092 0 ∷ row (codes "Yopf") 120144 0 ∷
    row (codes "Yscr") 119988 0 ∷ row (codes "Yuml") 376 0 ∷ []

abbrev pub large_z : List Row
large_z =
    row (codes "ZHcy") 1046 0 ∷ row (codes "Zacute") 377 0 ∷ row (codes "Zcaron") 381 0 ∷ row (codes "Zcy") 1047 0 ∷
    row (codes "Zdot") 379 0 ∷ row (codes "ZeroWidthSpace") 8203 0 ∷ row (codes "Zeta") 918 0 ∷ row (codes "Zfr") 8488 0 ∷
    row (codes "Zopf") 8484 0 ∷ row (codes "Zscr") 119989 0 ∷ []

abbrev pub small_a : List Row
small_a =
    row (codes "aacute") 225 0 ∷ row (codes "abreve") 259 0 ∷ row (codes "ac") 8766 0 ∷ row (codes "acE") 8766 819 ∷
    row (codes "acd") 8767 0 ∷ row (codes "acirc") 226 0 ∷ row (codes "acute") 180 0 ∷ row (codes "acy") 1072 0 ∷
    row (codes "aelig") 230 0 ∷ row (codes "af") 8289 0 ∷ row (codes "afr") 120094 0 ∷ row (codes "agrave") 224 0 ∷
    row (codes "alefsym") 8501 0 ∷ row (codes "aleph") 8501 0 ∷ row (codes "alpha") 945 0 ∷ row (codes "amacr") 257 0 ∷
    row (codes "amalg") 10815 0 ∷ row (codes "amp") 38 0 ∷ row (codes "and") 8743 0 ∷ row (codes "andand") 10837 0 ∷
    row (codes "andd") 10844 0 ∷ row (codes "andslope") 10840 0 ∷ row (codes "andv") 10842 0 ∷ row (codes "ang") 8736 0 ∷
    row (codes "ange") 10660 0 ∷ row (codes "angle") 8736 0 ∷ row (codes "angmsd") 8737 0 ∷ row (codes "angmsdaa") 10664 0 ∷
    row (codes "angmsdab") 10665 0 ∷ row (codes "angmsdac") 10666 0 ∷ row (codes "angmsdad") 10667 0 ∷ row (codes "angmsdae") 10668 0 ∷
    row (codes "angmsdaf") 10669 0 ∷ row (codes "angmsdag") 10670 0 ∷ row (codes "angmsdah") 10671 0 ∷ row (codes "angrt") 8735 0 ∷
    row (codes "angrtvb") 8894 0 ∷ row (codes "angrtvbd") 10653 0 ∷ row (codes "angsph") 8738 0 ∷ row (codes "angst") 197 0 ∷
    row (codes "angzarr") 9084 0 ∷ row (codes "aogon") 261 0 ∷ row (codes "aopf") 120146 0 ∷ row (codes "ap") 8776 0 ∷
    row (codes "apE") 10864 0 ∷ row (codes "apacir") 10863 0 ∷ row (codes "ape") 8778 0 ∷ row (codes "apid") 8779 0 ∷
    row (codes "apos") 39 0 ∷ row (codes "approx") 8776 0 ∷ row (codes "approxeq") 8778 0 ∷ row (codes "aring") 229 0 ∷
    row (codes "ascr") 119990 0 ∷ row (codes "ast") 42 0 ∷ row (codes "asymp") 8776 0 ∷ row (codes "asympeq") 8781 0 ∷
    row (codes "atilde") 227 0 ∷ row (codes "auml") 228 0 ∷ row (codes "awconint") 8755 0 ∷ row (codes "awint") 10769 0 ∷ []

abbrev pub small_b : List Row
small_b =
    row (codes "bNot") 10989 0 ∷ row (codes "backcong") 8780 0 ∷ row (codes "backepsilon") 1014 0 ∷ row (codes "backprime") 8245 0 ∷
    row (codes "backsim") 8765 0 ∷ row (codes "backsimeq") 8909 0 ∷ row (codes "barvee") 8893 0 ∷ row (codes "barwed") 8965 0 ∷
    row (codes "barwedge") 8965 0 ∷ row (codes "bbrk") 9141 0 ∷ row (codes "bbrktbrk") 9142 0 ∷ row (codes "bcong") 8780 0 ∷
    row (codes "bcy") 1073 0 ∷ row (codes "bdquo") 8222 0 ∷ row (codes "becaus") 8757 0 ∷ row (codes "because") 8757 0 ∷
    row (codes "bemptyv") 10672 0 ∷ row (codes "bepsi") 1014 0 ∷ row (codes "bernou") 8492 0 ∷ row (codes "beta") 946 0 ∷
    row (codes "beth") 8502 0 ∷ row (codes "between") 8812 0 ∷ row (codes "bfr") 120095 0 ∷ row (codes "bigcap") 8898 0 ∷
    row (codes "bigcirc") 9711 0 ∷ row (codes "bigcup") 8899 0 ∷ row (codes "bigodot") 10752 0 ∷ row (codes "bigoplus") 10753 0 ∷
    row (codes "bigotimes") 10754 0 ∷ row (codes "bigsqcup") 10758 0 ∷ row (codes "bigstar") 9733 0 ∷
    row (codes "bigtriangledown") 9661 0 ∷ row (codes "bigtriangleup") 9651 0 ∷ row (codes "biguplus") 10756 0 ∷
    row (codes "bigvee") 8897 0 ∷ row (codes "bigwedge") 8896 0 ∷ row (codes "bkarow") 10509 0 ∷ row (codes "blacklozenge") 10731 0 ∷
    row (codes "blacksquare") 9642 0 ∷ row (codes "blacktriangle") 9652 0 ∷ row (codes "blacktriangledown") 9662 0 ∷
    row (codes "blacktriangleleft") 9666 0 ∷ row (codes "blacktriangleright") 9656 0 ∷ row (codes "blank") 9251 0 ∷
    row (codes "blk12") 9618 0 ∷ row (codes "blk14") 9617 0 ∷ row (codes "blk34") 9619 0 ∷ row (codes "block") 9608 0 ∷
    row (codes "bne") 61 8421 ∷ row (codes "bnequiv") 8801 8421 ∷ row (codes "bnot") 8976 0 ∷ row (codes "bopf") 120147 0 ∷
    row (codes "bot") 8869 0 ∷ row (codes "bottom") 8869 0 ∷ row (codes "bowtie") 8904 0 ∷ row (codes "boxDL") 9559 0 ∷
    row (codes "boxDR") 9556 0 ∷ row (codes "boxDl") 9558 0 ∷ row (codes "boxDr") 9555 0 ∷ row (codes "boxH") 9552 0 ∷
    row (codes "boxHD") 9574 0 ∷ row (codes "boxHU") 9577 0 ∷ row (codes "boxHd") 9572 0 ∷ row (codes "boxHu") 9575 0 ∷
    row (codes "boxUL") 9565 0 ∷ row (codes "boxUR") 9562 0 ∷ row (codes "boxUl") 9564 0 ∷ row (codes "boxUr") 9561 0 ∷
    row (codes "boxV") 9553 0 ∷ row (codes "boxVH") 9580 0 ∷ row (codes "boxVL") 9571 0 ∷ row (codes "boxVR") 9568 0 ∷
    row (codes "boxVh") 9579 0 ∷ row (codes "boxVl") 9570 0 ∷ row (codes "boxVr") 9567 0 ∷ row (codes "boxbox") 10697 0 ∷
    row (codes "boxdL") 9557 0 ∷ row (codes "boxdR") 9554 0 ∷ row (codes "boxdl") 9488 0 ∷ row (codes "boxdr") 9484 0 ∷
    row (codes "boxh") 9472 0 ∷ row (codes "boxhD") 9573 0 ∷ row (codes "boxhU") 9576 0 ∷ row (codes "boxhd") 9516 0 ∷
    row (codes "boxhu") 9524 0 ∷ row (codes "boxminus") 8863 0 ∷ row (codes "boxplus") 8862 0 ∷ row (codes "boxtimes") 8864 0 ∷
    row (codes "boxuL") 9563 0 ∷ row (codes "boxuR") 9560 0 ∷ row (codes "boxul") 9496 0 ∷ row (codes "boxur") 9492 0 ∷
    row (codes "boxv") 9474 0 ∷ row (codes "boxvH") 9578 0 ∷ row (codes "boxvL") 9569 0 ∷ row (codes "boxvR") 9566 0 ∷
    row (codes "boxvh") 9532 0 ∷ row (codes "boxvl") 9508 0 ∷ row (codes "boxvr") 9500 0 ∷ row (codes "bprime") 8245 0 ∷
    row (codes "breve") 728 0 ∷ row (codes "brvbar") 166 0 ∷ row (codes "bscr") 119991 0 ∷ row (codes "bsemi") 8271 0 ∷
    row (codes "bsim") 8765 0 ∷ row (codes "bsime") 8909 0 ∷ row (codes "bsol") 92 0 ∷ row (codes "bsolb") 10693 0 ∷
    row (codes "bsolhsub") 10184 0 ∷ row (codes "bull") 8226 0 ∷ row (codes "bullet") 8226 0 ∷ row (codes "bump") 8782 0 ∷
    row (codes "bumpE") 10926 0 ∷ row (codes "bumpe") 8783 0 ∷ row (codes "bumpeq") 8783 0 ∷ []

abbrev pub small_c : List Row
small_c =
    row (codes "cacute") 263 0 ∷ row (codes "cap") 8745 0 ∷ row (codes "capand") 10820 0 ∷ row (codes "capbrcup") 10825 0 ∷
    row (codes "capcap") 10827 0 ∷ row (codes "capcup") 10823 0 ∷ row (codes "capdot") 10816 0 ∷ row (codes "caps") 8745 65024 ∷
    row (codes "caret") 8257 0 ∷ row (codes "caron") 711 0 ∷ row (codes "ccaps") 10829 0 ∷ row (codes "ccaron") 269 0 ∷
    row (codes "ccedil") 231 0 ∷ row (codes "ccirc") 265 0 ∷ row (codes "ccups") 10828 0 ∷ row (codes "ccupssm") 10832 0 ∷
    row (codes "cdot") 267 0 ∷ row (codes "cedil") 184 0 ∷ row (codes "cemptyv") 10674 0 ∷ row (codes "cent") 162 0 ∷
    row (codes "centerdot") 183 0 ∷ row (codes "cfr") 120096 0 ∷ row (codes "chcy") 1095 0 ∷ row (codes "check") 10003 0 ∷
    row (codes "checkmark") 10003 0 ∷ row (codes "chi") 967 0 ∷ row (codes "cir") 9675 0 ∷ row (codes "cirE") 10691 0 ∷
    row (codes "circ") 710 0 ∷ row (codes "circeq") 8791 0 ∷ row (codes "circlearrowleft") 8634 0 ∷ row (codes "circlearrowright") 8635 0 ∷
    row (codes "circledR") 174 0 ∷ row (codes "circledS") 9416 0 ∷ row (codes "circledast") 8859 0 ∷ row (codes "circledcirc") 8858 0 ∷
    row (codes "circleddash") 8861 0 ∷ row (codes "cire") 8791 0 ∷ row (codes "cirfnint") 10768 0 ∷ row (codes "cirmid") 10991 0 ∷
    row (codes "cirscir") 10690 0 ∷ row (codes "clubs") 9827 0 ∷ row (codes "clubsuit") 9827 0 ∷ row (codes "colon") 58 0 ∷
    row (codes "colone") 8788 0 ∷ row (codes "coloneq") 8788 0 ∷ row (codes "comma") 44 0 ∷ row (codes "commat") 64 0 ∷
    row (codes "comp") 8705 0 ∷ row (codes "compfn") 8728 0 ∷ row (codes "complement") 8705 0 ∷ row (codes "complexes") 8450 0 ∷
    row (codes "cong") 8773 0 ∷ row (codes "congdot") 10861 0 ∷ row (codes "conint") 8750 0 ∷ row (codes "copf") 120148 0 ∷
    row (codes "coprod") 8720 0 ∷ row (codes "copy") 169 0 ∷ row (codes "copysr") 8471 0 ∷ row (codes "crarr") 8629 0 ∷
    row (codes "cross") 10007 0 ∷ row (codes "cscr") 119992 0 ∷ row (codes "csub") 10959 0 ∷ row (codes "csube") 10961 0 ∷
    row (codes "csup") 10960 0 ∷ row (codes "csupe") 10962 0 ∷ row (codes "ctdot") 8943 0 ∷ row (codes "cudarrl") 10552 0 ∷
    row (codes "cudarrr") 10549 0 ∷ row (codes "cuepr") 8926 0 ∷ row (codes "cuesc") 8927 0 ∷ row (codes "cularr") 8630 0 ∷
    row (codes "cularrp") 10557 0 ∷ row (codes "cup") 8746 0 ∷ row (codes "cupbrcap") 10824 0 ∷ row (codes "cupcap") 10822 0 ∷
    row (codes "cupcup") 10826 0 ∷ row (codes "cupdot") 8845 0 ∷ row (codes "cupor") 10821 0 ∷ row (codes "cups") 8746 65024 ∷
    row (codes "curarr") 8631 0 ∷ row (codes "curarrm") 10556 0 ∷ row (codes "curlyeqprec") 8926 0 ∷ row (codes "curlyeqsucc") 8927 0 ∷
    row (codes "curlyvee") 8910 0 ∷ row (codes "curlywedge") 8911 0 ∷ row (codes "curren") 164 0 ∷ row (codes "curvearrowleft") 8630 0 ∷
    row (codes "curvearrowright") 8631 0 ∷ row (codes "cuvee") 8910 0 ∷ row (codes "cuwed") 8911 0 ∷ row (codes "cwconint") 8754 0 ∷
    row (codes "cwint") 8753 0 ∷ row (codes "cylcty") 9005 0 ∷ []

abbrev pub small_d : List Row
small_d =
    row (codes "dArr") 8659 0 ∷ row (codes "dHar") 10597 0 ∷ row (codes "dagger") 8224 0 ∷ row (codes "daleth") 8504 0 ∷
    row (codes "darr") 8595 0 ∷ row (codes "dash") 8208 0 ∷ row (codes "dashv") 8867 0 ∷ row (codes "dbkarow") 10511 0 ∷
    row (codes "dblac") 733 0 ∷ row (codes "dcaron") 271 0 ∷ row (codes "dcy") 1076 0 ∷ row (codes "dd") 8518 0 ∷
    row (codes "ddagger") 8225 0 ∷ row (codes "ddarr") 8650 0 ∷ row (codes "ddotseq") 10871 0 ∷ row (codes "deg") 176 0 ∷
    row (codes "delta") 948 0 ∷ row (codes "demptyv") 10673 0 ∷ row (codes "dfisht") 10623 0 ∷ row (codes "dfr") 120097 0 ∷
    row (codes "dharl") 8643 0 ∷ row (codes "dharr") 8642 0 ∷ row (codes "diam") 8900 0 ∷ row (codes "diamond") 8900 0 ∷
    row (codes "diamondsuit") 9830 0 ∷ row (codes "diams") 9830 0 ∷ row (codes "die") 168 0 ∷ row (codes "digamma") 989 0 ∷
    row (codes "disin") 8946 0 ∷ row (codes "div") 247 0 ∷ row (codes "divide") 247 0 ∷ row (codes "divideontimes") 8903 0 ∷
    row (codes "divonx") 8903 0 ∷ row (codes "djcy") 1106 0 ∷ row (codes "dlcorn") 8990 0 ∷ row (codes "dlcrop") 8973 0 ∷
    row (codes "dollar") 36 0 ∷ row (codes "dopf") 120149 0 ∷ row (codes "dot") 729 0 ∷ row (codes "doteq") 8784 0 ∷
    row (codes "doteqdot") 8785 0 ∷ row (codes "dotminus") 8760 0 ∷ row (codes "dotplus") 8724 0 ∷ row (codes "dotsquare") 8865 0 ∷
    row (codes "doublebarwedge") 8966 0 ∷ row (codes "downarrow") 8595 0 ∷ row (codes "downdownarrows") 8650 0 ∷
    row (codes "downharpoonleft") 8643 0 ∷ row (codes "downharpoonright") 8642 0 ∷ row (codes "drbkarow") 10512 0 ∷
    row (codes "drcorn") 8991 0 ∷ row (codes "drcrop") 8972 0 ∷ row (codes "dscr") 119993 0 ∷ row (codes "dscy") 1109 0 ∷
    row (codes "dsol") 10742 0 ∷ row (codes "dstrok") 273 0 ∷ row (codes "dtdot") 8945 0 ∷ row (codes "dtri") 9663 0 ∷
    row (codes "dtrif") 9662 0 ∷ row (codes "duarr") 8693 0 ∷ row (codes "duhar") 10607 0 ∷ row (codes "dwangle") 10662 0 ∷
    row (codes "dzcy") 1119 0 ∷ row (codes "dzigrarr") 10239 0 ∷ []

abbrev pub small_e : List Row
small_e =
    row (codes "eDDot") 10871 0 ∷ row (codes "eDot") 8785 0 ∷ row (codes "eacute") 233 0 ∷ row (codes "easter") 10862 0 ∷
    row (codes "ecaron") 283 0 ∷ row (codes "ecir") 8790 0 ∷ row (codes "ecirc") 234 0 ∷ row (codes "ecolon") 8789 0 ∷
    row (codes "ecy") 1101 0 ∷ row (codes "edot") 279 0 ∷ row (codes "ee") 8519 0 ∷ row (codes "efDot") 8786 0 ∷
    row (codes "efr") 120098 0 ∷ row (codes "eg") 10906 0 ∷ row (codes "egrave") 232 0 ∷ row (codes "egs") 10902 0 ∷
    row (codes "egsdot") 10904 0 ∷ row (codes "el") 10905 0 ∷ row (codes "elinters") 9191 0 ∷ row (codes "ell") 8467 0 ∷
    row (codes "els") 10901 0 ∷ row (codes "elsdot") 10903 0 ∷ row (codes "emacr") 275 0 ∷ row (codes "empty") 8709 0 ∷
    row (codes "emptyset") 8709 0 ∷ row (codes "emptyv") 8709 0 ∷ row (codes "emsp") 8195 0 ∷ row (codes "emsp13") 8196 0 ∷
    row (codes "emsp14") 8197 0 ∷ row (codes "eng") 331 0 ∷ row (codes "ensp") 8194 0 ∷ row (codes "eogon") 281 0 ∷
    row (codes "eopf") 120150 0 ∷ row (codes "epar") 8917 0 ∷ row (codes "eparsl") 10723 0 ∷ row (codes "eplus") 10865 0 ∷
    row (codes "epsi") 949 0 ∷ row (codes "epsilon") 949 0 ∷ row (codes "epsiv") 1013 0 ∷ row (codes "eqcirc") 8790 0 ∷
    row (codes "eqcolon") 8789 0 ∷ row (codes "eqsim") 8770 0 ∷ row (codes "eqslantgtr") 10902 0 ∷ row (codes "eqslantless") 10901 0 ∷
    row (codes "equals") 61 0 ∷ row (codes "equest") 8799 0 ∷ row (codes "equiv") 8801 0 ∷ row (codes "equivDD") 10872 0 ∷
    row (codes "eqvparsl") 10725 0 ∷ row (codes "erDot") 8787 0 ∷ row (codes "erarr") 10609 0 ∷ row (codes "escr") 8495 0 ∷
    row (codes "esdot") 8784 0 ∷ row (codes "esim") 8770 0 ∷ row (codes "eta") 951 0 ∷ row (codes "eth") 240 0 ∷ row (codes "euml") 235 0 ∷
    row (codes "euro") 8364 0 ∷ row (codes "excl") 33 0 ∷ row (codes "exist") 8707 0 ∷ row (codes "expectation") 8496 0 ∷
    row (codes "exponentiale") 8519 0 ∷ []

abbrev pub small_f : List Row
small_f =
    row (codes "fallingdotseq") 8786 0 ∷ row (codes "fcy") 1092 0 ∷ row (codes "female") 9792 0 ∷ row (codes "ffilig") 64259 0 ∷
    row (codes "fflig") 64256 0 ∷ row (codes "ffllig") 64260 0 ∷ row (codes "ffr") 120099 0 ∷ row (codes "filig") 64257 0 ∷
    row (codes "fjlig") 102 106 ∷ row (codes "flat") 9837 0 ∷ row (codes "fllig") 64258 0 ∷ row (codes "fltns") 9649 0 ∷
    row (codes "fnof") 402 0 ∷ row (codes "fopf") 120151 0 ∷ row (codes "forall") 8704 0 ∷ row (codes "fork") 8916 0 ∷
    row (codes "forkv") 10969 0 ∷ row (codes "fpartint") 10765 0 ∷ row (codes "frac12") 189 0 ∷ row (codes "frac13") 8531 0 ∷
    row (codes "frac14") 188 0 ∷ row (codes "frac15") 8533 0 ∷ row (codes "frac16") 8537 0 ∷ row (codes "frac18") 8539 0 ∷
    row (codes "frac23") 8532 0 ∷ row (codes "frac25") 8534 0 ∷ row (codes "frac34") 190 0 ∷ row (codes "frac35") 8535 0 ∷
    row (codes "frac38") 8540 0 ∷ row (codes "frac45") 8536 0 ∷ row (codes "frac56") 8538 0 ∷ row (codes "frac58") 8541 0 ∷
    row (codes "frac78") 8542 0 ∷ row (codes "frasl") 8260 0 ∷ row (codes "frown") 8994 0 ∷ row (codes "fscr") 119995 0 ∷ []

abbrev pub small_g : List Row
small_g =
    row (codes "gE") 8807 0 ∷ row (codes "gEl") 10892 0 ∷ row (codes "gacute") 501 0 ∷ row (codes "gamma") 947 0 ∷
    row (codes "gammad") 989 0 ∷ row (codes "gap") 10886 0 ∷ row (codes "gbreve") 287 0 ∷ row (codes "gcirc") 285 0 ∷
    row (codes "gcy") 1075 0 ∷ row (codes "gdot") 289 0 ∷ row (codes "ge") 8805 0 ∷ row (codes "gel") 8923 0 ∷ row (codes "geq") 8805 0 ∷
    row (codes "geqq") 8807 0 ∷ row (codes "geqslant") 10878 0 ∷ row (codes "ges") 10878 0 ∷ row (codes "gescc") 10921 0 ∷
    row (codes "gesdot") 10880 0 ∷ row (codes "gesdoto") 10882 0 ∷ row (codes "gesdotol") 10884 0 ∷ row (codes "gesl") 8923 65024 ∷
    row (codes "gesles") 10900 0 ∷ row (codes "gfr") 120100 0 ∷ row (codes "gg") 8811 0 ∷ row (codes "ggg") 8921 0 ∷
    row (codes "gimel") 8503 0 ∷ row (codes "gjcy") 1107 0 ∷ row (codes "gl") 8823 0 ∷ row (codes "glE") 10898 0 ∷
    row (codes "gla") 10917 0 ∷ row (codes "glj") 10916 0 ∷ row (codes "gnE") 8809 0 ∷ row (codes "gnap") 10890 0 ∷
    row (codes "gnapprox") 10890 0 ∷ row (codes "gne") 10888 0 ∷ row (codes "gneq") 10888 0 ∷ row (codes "gneqq") 8809 0 ∷
    row (codes "gnsim") 8935 0 ∷ row (codes "gopf") 120152 0 ∷ row (codes "grave") 96 0 ∷ row (codes "gscr") 8458 0 ∷
    row (codes "gsim") 8819 0 ∷ row (codes "gsime") 10894 0 ∷ row (codes "gsiml") 10896 0 ∷ row (codes "gt") 62 0 ∷
    row (codes "gtcc") 10919 0 ∷ row (codes "gtcir") 10874 0 ∷ row (codes "gtdot") 8919 0 ∷ row (codes "gtlPar") 10645 0 ∷
    row (codes "gtquest") 10876 0 ∷ row (codes "gtrapprox") 10886 0 ∷ row (codes "gtrarr") 10616 0 ∷ row (codes "gtrdot") 8919 0 ∷
    row (codes "gtreqless") 8923 0 ∷ row (codes "gtreqqless") 10892 0 ∷ row (codes "gtrless") 8823 0 ∷ row (codes "gtrsim") 8819 0 ∷
    row (codes "gvertneqq") 8809 65024 ∷ row (codes "gvnE") 8809 65024 ∷ []

abbrev pub small_h : List Row
small_h =
    row (codes "hArr") 8660 0 ∷ row (codes "hairsp") 8202 0 ∷ row (codes "half") 189 0 ∷ row (codes "hamilt") 8459 0 ∷
    row (codes "hardcy") 1098 0 ∷ row (codes "harr") 8596 0 ∷ row (codes "harrcir") 10568 0 ∷ row (codes "harrw") 8621 0 ∷
    row (codes "hbar") 8463 0 ∷ row (codes "hcirc") 293 0 ∷ row (codes "hearts") 9829 0 ∷ row (codes "heartsuit") 9829 0 ∷
    row (codes "hellip") 8230 0 ∷ row (codes "hercon") 8889 0 ∷ row (codes "hfr") 120101 0 ∷ row (codes "hksearow") 10533 0 ∷
    row (codes "hkswarow") 10534 0 ∷ row (codes "hoarr") 8703 0 ∷ row (codes "homtht") 8763 0 ∷ row (codes "hookleftarrow") 8617 0 ∷
    row (codes "hookrightarrow") 8618 0 ∷ row (codes "hopf") 120153 0 ∷ row (codes "horbar") 8213 0 ∷ row (codes "hscr") 119997 0 ∷
    row (codes "hslash") 8463 0 ∷ row (codes "hstrok") 295 0 ∷ row (codes "hybull") 8259 0 ∷ row (codes "hyphen") 8208 0 ∷ []

abbrev pub small_i : List Row
small_i =
    row (codes "iacute") 237 0 ∷ row (codes "ic") 8291 0 ∷ row (codes "icirc") 238 0 ∷ row (codes "icy") 1080 0 ∷
    row (codes "iecy") 1077 0 ∷ row (codes "iexcl") 161 0 ∷ row (codes "iff") 8660 0 ∷ row (codes "ifr") 120102 0 ∷
    row (codes "igrave") 236 0 ∷ row (codes "ii") 8520 0 ∷ row (codes "iiiint") 10764 0 ∷ row (codes "iiint") 8749 0 ∷
    row (codes "iinfin") 10716 0 ∷ row (codes "iiota") 8489 0 ∷ row (codes "ijlig") 307 0 ∷ row (codes "imacr") 299 0 ∷
    row (codes "image") 8465 0 ∷ row (codes "imagline") 8464 0 ∷ row (codes "imagpart") 8465 0 ∷ row (codes "imath") 305 0 ∷
    row (codes "imof") 8887 0 ∷ row (codes "imped") 437 0 ∷ row (codes "in") 8712 0 ∷ row (codes "incare") 8453 0 ∷
    row (codes "infin") 8734 0 ∷ row (codes "infintie") 10717 0 ∷ row (codes "inodot") 305 0 ∷ row (codes "int") 8747 0 ∷
    row (codes "intcal") 8890 0 ∷ row (codes "integers") 8484 0 ∷ row (codes "intercal") 8890 0 ∷ row (codes "intlarhk") 10775 0 ∷
    row (codes "intprod") 10812 0 ∷ row (codes "iocy") 1105 0 ∷ row (codes "iogon") 303 0 ∷ row (codes "iopf") 120154 0 ∷
    row (codes "iota") 953 0 ∷ row (codes "iprod") 10812 0 ∷ row (codes "iquest") 191 0 ∷ row (codes "iscr") 119998 0 ∷
    row (codes "isin") 8712 0 ∷ row (codes "isinE") 8953 0 ∷ row (codes "isindot") 8949 0 ∷ row (codes "isins") 8948 0 ∷
    row (codes "isinsv") 8947 0 ∷ row (codes "isinv") 8712 0 ∷ row (codes "it") 8290 0 ∷ row (codes "itilde") 297 0 ∷
    row (codes "iukcy") 1110 0 ∷ row (codes "iuml") 239 0 ∷ []

abbrev pub small_j : List Row
small_j =
    row (codes "jcirc") 309 0 ∷ row (codes "jcy") 1081 0 ∷ row (codes "jfr") 120103 0 ∷ row (codes "jmath") 567 0 ∷
    row (codes "jopf") 120155 0 ∷ row (codes "jscr") 119999 0 ∷ row (codes "jsercy") 1112 0 ∷ row (codes "jukcy") 1108 0 ∷ []

abbrev pub small_k : List Row
small_k =
    row (codes "kappa") 954 0 ∷ row (codes "kappav") 1008 0 ∷ row (codes "kcedil") 311 0 ∷ row (codes "kcy") 1082 0 ∷
    row (codes "kfr") 120104 0 ∷ row (codes "kgreen") 312 0 ∷ row (codes "khcy") 1093 0 ∷ row (codes "kjcy") 1116 0 ∷
    row (codes "kopf") 120156 0 ∷ row (codes "kscr") 120000 0 ∷ []

abbrev pub small_l : List Row
small_l =
    row (codes "lAarr") 8666 0 ∷ row (codes "lArr") 8656 0 ∷ row (codes "lAtail") 10523 0 ∷ row (codes "lBarr") 10510 0 ∷
    row (codes "lE") 8806 0 ∷ row (codes "lEg") 10891 0 ∷ row (codes "lHar") 10594 0 ∷ row (codes "lacute") 314 0 ∷
    row (codes "laemptyv") 10676 0 ∷ row (codes "lagran") 8466 0 ∷ row (codes "lambda") 955 0 ∷ row (codes "lang") 10216 0 ∷
    row (codes "langd") 10641 0 ∷ row (codes "langle") 10216 0 ∷ row (codes "lap") 10885 0 ∷ row (codes "laquo") 171 0 ∷
    row (codes "larr") 8592 0 ∷ row (codes "larrb") 8676 0 ∷ row (codes "larrbfs") 10527 0 ∷ row (codes "larrfs") 10525 0 ∷
    row (codes "larrhk") 8617 0 ∷ row (codes "larrlp") 8619 0 ∷ row (codes "larrpl") 10553 0 ∷ row (codes "larrsim") 10611 0 ∷
    row (codes "larrtl") 8610 0 ∷ row (codes "lat") 10923 0 ∷ row (codes "latail") 10521 0 ∷ row (codes "late") 10925 0 ∷
    row (codes "lates") 10925 65024 ∷ row (codes "lbarr") 10508 0 ∷ row (codes "lbbrk") 10098 0 ∷ row (codes "lbrace") 123 0 ∷
    row (codes "lbrack") 91 0 ∷ row (codes "lbrke") 10635 0 ∷ row (codes "lbrksld") 10639 0 ∷ row (codes "lbrkslu") 10637 0 ∷
    row (codes "lcaron") 318 0 ∷ row (codes "lcedil") 316 0 ∷ row (codes "lceil") 8968 0 ∷ row (codes "lcub") 123 0 ∷
    row (codes "lcy") 1083 0 ∷ row (codes "ldca") 10550 0 ∷ row (codes "ldquo") 8220 0 ∷ row (codes "ldquor") 8222 0 ∷
    row (codes "ldrdhar") 10599 0 ∷ row (codes "ldrushar") 10571 0 ∷ row (codes "ldsh") 8626 0 ∷ row (codes "le") 8804 0 ∷
    row (codes "leftarrow") 8592 0 ∷ row (codes "leftarrowtail") 8610 0 ∷ row (codes "leftharpoondown") 8637 0 ∷
    row (codes "leftharpoonup") 8636 0 ∷ row (codes "leftleftarrows") 8647 0 ∷ row (codes "leftrightarrow") 8596 0 ∷
    row (codes "leftrightarrows") 8646 0 ∷ row (codes "leftrightharpoons") 8651 0 ∷ row (codes "leftrightsquigarrow") 8621 0 ∷
    row (codes "leftthreetimes") 8907 0 ∷ row (codes "leg") 8922 0 ∷ row (codes "leq") 8804 0 ∷ row (codes "leqq") 8806 0 ∷
    row (codes "leqslant") 10877 0 ∷ row (codes "les") 10877 0 ∷ row (codes "lescc") 10920 0 ∷ row (codes "lesdot") 10879 0 ∷
    row (codes "lesdoto") 10881 0 ∷ row (codes "lesdotor") 10883 0 ∷ row (codes "lesg") 8922 65024 ∷ row (codes "lesges") 10899 0 ∷
    row (codes "lessapprox") 10885 0 ∷ row (codes "lessdot") 8918 0 ∷ row (codes "lesseqgtr") 8922 0 ∷ row (codes "lesseqqgtr") 10891 0 ∷
    row (codes "lessgtr") 8822 0 ∷ row (codes "lesssim") 8818 0 ∷ row (codes "lfisht") 10620 0 ∷ row (codes "lfloor") 8970 0 ∷
    row (codes "lfr") 120105 0 ∷ row (codes "lg") 8822 0 ∷ row (codes "lgE") 10897 0 ∷ row (codes "lhard") 8637 0 ∷
    row (codes "lharu") 8636 0 ∷ row (codes "lharul") 10602 0 ∷ row (codes "lhblk") 9604 0 ∷ row (codes "ljcy") 1113 0 ∷
    row (codes "ll") 8810 0 ∷ row (codes "llarr") 8647 0 ∷ row (codes "llcorner") 8990 0 ∷ row (codes "llhard") 10603 0 ∷
    row (codes "lltri") 9722 0 ∷ row (codes "lmidot") 320 0 ∷ row (codes "lmoust") 9136 0 ∷ row (codes "lmoustache") 9136 0 ∷
    row (codes "lnE") 8808 0 ∷ row (codes "lnap") 10889 0 ∷ row (codes "lnapprox") 10889 0 ∷ row (codes "lne") 10887 0 ∷
    row (codes "lneq") 10887 0 ∷ row (codes "lneqq") 8808 0 ∷ row (codes "lnsim") 8934 0 ∷ row (codes "loang") 10220 0 ∷
    row (codes "loarr") 8701 0 ∷ row (codes "lobrk") 10214 0 ∷ row (codes "longleftarrow") 10229 0 ∷
    row (codes "longleftrightarrow") 10231 0 ∷ row (codes "longmapsto") 10236 0 ∷ row (codes "longrightarrow") 10230 0 ∷
    row (codes "looparrowleft") 8619 0 ∷ row (codes "looparrowright") 8620 0 ∷ row (codes "lopar") 10629 0 ∷ row (codes "lopf") 120157 0 ∷
    row (codes "loplus") 10797 0 ∷ row (codes "lotimes") 10804 0 ∷ row (codes "lowast") 8727 0 ∷ row (codes "lowbar") 95 0 ∷
    row (codes "loz") 9674 0 ∷ row (codes "lozenge") 9674 0 ∷ row (codes "lozf") 10731 0 ∷ row (codes "lpar") 40 0 ∷
    row (codes "lparlt") 10643 0 ∷ row (codes "lrarr") 8646 0 ∷ row (codes "lrcorner") 8991 0 ∷ row (codes "lrhar") 8651 0 ∷
    row (codes "lrhard") 10605 0 ∷ row (codes "lrm") 8206 0 ∷ row (codes "lrtri") 8895 0 ∷ row (codes "lsaquo") 8249 0 ∷
    row (codes "lscr") 120001 0 ∷ row (codes "lsh") 8624 0 ∷ row (codes "lsim") 8818 0 ∷ row (codes "lsime") 10893 0 ∷
    row (codes "lsimg") 10895 0 ∷ row (codes "lsqb") 91 0 ∷ row (codes "lsquo") 8216 0 ∷ row (codes "lsquor") 8218 0 ∷
    row (codes "lstrok") 322 0 ∷ row (codes "lt") 60 0 ∷ row (codes "ltcc") 10918 0 ∷ row (codes "ltcir") 10873 0 ∷
    row (codes "ltdot") 8918 0 ∷ row (codes "lthree") 8907 0 ∷ row (codes "ltimes") 8905 0 ∷ row (codes "ltlarr") 10614 0 ∷
    row (codes "ltquest") 10875 0 ∷ row (codes "ltrPar") 10646 0 ∷ row (codes "ltri") 9667 0 ∷ row (codes "ltrie") 8884 0 ∷
    row (codes "ltrif") 9666 0 ∷ row (codes "lurdshar") 10570 0 ∷ row (codes "luruhar") 10598 0 ∷ row (codes "lvertneqq") 8808 65024 ∷
    row (codes "lvnE") 8808 65024 ∷ []

abbrev pub small_m : List Row
small_m =
    row (codes "mDDot") 8762 0 ∷ row (codes "macr") 175 0 ∷ row (codes "male") 9794 0 ∷ row (codes "malt") 10016 0 ∷
    row (codes "maltese") 10016 0 ∷ row (codes "map") 8614 0 ∷ row (codes "mapsto") 8614 0 ∷ row (codes "mapstodown") 8615 0 ∷
    row (codes "mapstoleft") 8612 0 ∷ row (codes "mapstoup") 8613 0 ∷ row (codes "marker") 9646 0 ∷ row (codes "mcomma") 10793 0 ∷
    row (codes "mcy") 1084 0 ∷ row (codes "mdash") 8212 0 ∷ row (codes "measuredangle") 8737 0 ∷ row (codes "mfr") 120106 0 ∷
    row (codes "mho") 8487 0 ∷ row (codes "micro") 181 0 ∷ row (codes "mid") 8739 0 ∷ row (codes "midast") 42 0 ∷
    row (codes "midcir") 10992 0 ∷ row (codes "middot") 183 0 ∷ row (codes "minus") 8722 0 ∷ row (codes "minusb") 8863 0 ∷
    row (codes "minusd") 8760 0 ∷ row (codes "minusdu") 10794 0 ∷ row (codes "mlcp") 10971 0 ∷ row (codes "mldr") 8230 0 ∷
    row (codes "mnplus") 8723 0 ∷ row (codes "models") 8871 0 ∷ row (codes "mopf") 120158 0 ∷ row (codes "mp") 8723 0 ∷
    row (codes "mscr") 120002 0 ∷ row (codes "mstpos") 8766 0 ∷ row (codes "mu") 956 0 ∷ row (codes "multimap") 8888 0 ∷
    row (codes "mumap") 8888 0 ∷ []

abbrev pub small_n : List Row
small_n =
    row (codes "nGg") 8921 824 ∷ row (codes "nGt") 8811 8402 ∷ row (codes "nGtv") 8811 824 ∷ row (codes "nLeftarrow") 8653 0 ∷
    row (codes "nLeftrightarrow") 8654 0 ∷ row (codes "nLl") 8920 824 ∷ row (codes "nLt") 8810 8402 ∷ row (codes "nLtv") 8810 824 ∷
    row (codes "nRightarrow") 8655 0 ∷ row (codes "nVDash") 8879 0 ∷ row (codes "nVdash") 8878 0 ∷ row (codes "nabla") 8711 0 ∷
    row (codes "nacute") 324 0 ∷ row (codes "nang") 8736 8402 ∷ row (codes "nap") 8777 0 ∷ row (codes "napE") 10864 824 ∷
    row (codes "napid") 8779 824 ∷ row (codes "napos") 329 0 ∷ row (codes "napprox") 8777 0 ∷ row (codes "natur") 9838 0 ∷
    row (codes "natural") 9838 0 ∷ row (codes "naturals") 8469 0 ∷ row (codes "nbsp") 160 0 ∷ row (codes "nbump") 8782 824 ∷
    row (codes "nbumpe") 8783 824 ∷ row (codes "ncap") 10819 0 ∷ row (codes "ncaron") 328 0 ∷ row (codes "ncedil") 326 0 ∷
    row (codes "ncong") 8775 0 ∷ row (codes "ncongdot") 10861 824 ∷ row (codes "ncup") 10818 0 ∷ row (codes "ncy") 1085 0 ∷
    row (codes "ndash") 8211 0 ∷ row (codes "ne") 8800 0 ∷ row (codes "neArr") 8663 0 ∷ row (codes "nearhk") 10532 0 ∷
    row (codes "nearr") 8599 0 ∷ row (codes "nearrow") 8599 0 ∷ row (codes "nedot") 8784 824 ∷ row (codes "nequiv") 8802 0 ∷
    row (codes "nesear") 10536 0 ∷ row (codes "nesim") 8770 824 ∷ row (codes "nexist") 8708 0 ∷ row (codes "nexists") 8708 0 ∷
    row (codes "nfr") 120107 0 ∷ row (codes "ngE") 8807 824 ∷ row (codes "nge") 8817 0 ∷ row (codes "ngeq") 8817 0 ∷
    row (codes "ngeqq") 8807 824 ∷ row (codes "ngeqslant") 10878 824 ∷ row (codes "nges") 10878 824 ∷ row (codes "ngsim") 8821 0 ∷
    row (codes "ngt") 8815 0 ∷ row (codes "ngtr") 8815 0 ∷ row (codes "nhArr") 8654 0 ∷ row (codes "nharr") 8622 0 ∷
    row (codes "nhpar") 10994 0 ∷ row (codes "ni") 8715 0 ∷ row (codes "nis") 8956 0 ∷ row (codes "nisd") 8954 0 ∷
    row (codes "niv") 8715 0 ∷ row (codes "njcy") 1114 0 ∷ row (codes "nlArr") 8653 0 ∷ row (codes "nlE") 8806 824 ∷
    row (codes "nlarr") 8602 0 ∷ row (codes "nldr") 8229 0 ∷ row (codes "nle") 8816 0 ∷ row (codes "nleftarrow") 8602 0 ∷
    row (codes "nleftrightarrow") 8622 0 ∷ row (codes "nleq") 8816 0 ∷ row (codes "nleqq") 8806 824 ∷ row (codes "nleqslant") 10877 824 ∷
    row (codes "nles") 10877 824 ∷ row (codes "nless") 8814 0 ∷ row (codes "nlsim") 8820 0 ∷ row (codes "nlt") 8814 0 ∷
    row (codes "nltri") 8938 0 ∷ row (codes "nltrie") 8940 0 ∷ row (codes "nmid") 8740 0 ∷ row (codes "nopf") 120159 0 ∷
    row (codes "not") 172 0 ∷ row (codes "notin") 8713 0 ∷ row (codes "notinE") 8953 824 ∷ row (codes "notindot") 8949 824 ∷
    row (codes "notinva") 8713 0 ∷ row (codes "notinvb") 8951 0 ∷ row (codes "notinvc") 8950 0 ∷ row (codes "notni") 8716 0 ∷
    row (codes "notniva") 8716 0 ∷ row (codes "notnivb") 8958 0 ∷ row (codes "notnivc") 8957 0 ∷ row (codes "npar") 8742 0 ∷
    row (codes "nparallel") 8742 0 ∷ row (codes "nparsl") 11005 8421 ∷ row (codes "npart") 8706 824 ∷ row (codes "npolint") 10772 0 ∷
    row (codes "npr") 8832 0 ∷ row (codes "nprcue") 8928 0 ∷ row (codes "npre") 10927 824 ∷ row (codes "nprec") 8832 0 ∷
    row (codes "npreceq") 10927 824 ∷ row (codes "nrArr") 8655 0 ∷ row (codes "nrarr") 8603 0 ∷ row (codes "nrarrc") 10547 824 ∷
    row (codes "nrarrw") 8605 824 ∷ row (codes "nrightarrow") 8603 0 ∷ row (codes "nrtri") 8939 0 ∷ row (codes "nrtrie") 8941 0 ∷
    row (codes "nsc") 8833 0 ∷ row (codes "nsccue") 8929 0 ∷ row (codes "nsce") 10928 824 ∷ row (codes "nscr") 120003 0 ∷
    row (codes "nshortmid") 8740 0 ∷ row (codes "nshortparallel") 8742 0 ∷ row (codes "nsim") 8769 0 ∷ row (codes "nsime") 8772 0 ∷
    row (codes "nsimeq") 8772 0 ∷ row (codes "nsmid") 8740 0 ∷ row (codes "nspar") 8742 0 ∷ row (codes "nsqsube") 8930 0 ∷
    row (codes "nsqsupe") 8931 0 ∷ row (codes "nsub") 8836 0 ∷ row (codes "nsubE") 10949 824 ∷ row (codes "nsube") 8840 0 ∷
    row (codes "nsubset") 8834 8402 ∷ row (codes "nsubseteq") 8840 0 ∷ row (codes "nsubseteqq") 10949 824 ∷ row (codes "nsucc") 8833 0 ∷
    row (codes "nsucceq") 10928 824 ∷ row (codes "nsup") 8837 0 ∷ row (codes "nsupE") 10950 824 ∷ row (codes "nsupe") 8841 0 ∷
    row (codes "nsupset") 8835 8402 ∷ row (codes "nsupseteq") 8841 0 ∷ row (codes "nsupseteqq") 10950 824 ∷ row (codes "ntgl") 8825 0 ∷
    row (codes "ntilde") 241 0 ∷ row (codes "ntlg") 8824 0 ∷ row (codes "ntriangleleft") 8938 0 ∷ row (codes "ntrianglelefteq") 8940 0 ∷
    row (codes "ntriangleright") 8939 0 ∷ row (codes "ntrianglerighteq") 8941 0 ∷ row (codes "nu") 957 0 ∷ row (codes "num") 35 0 ∷
    row (codes "numero") 8470 0 ∷ row (codes "numsp") 8199 0 ∷ row (codes "nvDash") 8877 0 ∷ row (codes "nvHarr") 10500 0 ∷
    row (codes "nvap") 8781 8402 ∷ row (codes "nvdash") 8876 0 ∷ row (codes "nvge") 8805 8402 ∷ row (codes "nvgt") 62 8402 ∷
    row (codes "nvinfin") 10718 0 ∷ row (codes "nvlArr") 10498 0 ∷ row (codes "nvle") 8804 8402 ∷ row (codes "nvlt") 60 8402 ∷
    row (codes "nvltrie") 8884 8402 ∷ row (codes "nvrArr") 10499 0 ∷ row (codes "nvrtrie") 8885 8402 ∷ row (codes "nvsim") 8764 8402 ∷
    row (codes "nwArr") 8662 0 ∷ row (codes "nwarhk") 10531 0 ∷ row (codes "nwarr") 8598 0 ∷ row (codes "nwarrow") 8598 0 ∷
    row (codes "nwnear") 10535 0 ∷ []

abbrev pub small_o : List Row
small_o =
    row (codes "oS") 9416 0 ∷ row (codes "oacute") 243 0 ∷ row (codes "oast") 8859 0 ∷ row (codes "ocir") 8858 0 ∷
    row (codes "ocirc") 244 0 ∷ row (codes "ocy") 1086 0 ∷ row (codes "odash") 8861 0 ∷ row (codes "odblac") 337 0 ∷
    row (codes "odiv") 10808 0 ∷ row (codes "odot") 8857 0 ∷ row (codes "odsold") 10684 0 ∷ row (codes "oelig") 339 0 ∷
    row (codes "ofcir") 10687 0 ∷ row (codes "ofr") 120108 0 ∷ row (codes "ogon") 731 0 ∷ row (codes "ograve") 242 0 ∷
    row (codes "ogt") 10689 0 ∷ row (codes "ohbar") 10677 0 ∷ row (codes "ohm") 937 0 ∷ row (codes "oint") 8750 0 ∷
    row (codes "olarr") 8634 0 ∷ row (codes "olcir") 10686 0 ∷ row (codes "olcross") 10683 0 ∷ row (codes "oline") 8254 0 ∷
    row (codes "olt") 10688 0 ∷ row (codes "omacr") 333 0 ∷ row (codes "omega") 969 0 ∷ row (codes "omicron") 959 0 ∷
    row (codes "omid") 10678 0 ∷ row (codes "ominus") 8854 0 ∷ row (codes "oopf") 120160 0 ∷ row (codes "opar") 10679 0 ∷
    row (codes "operp") 10681 0 ∷ row (codes "oplus") 8853 0 ∷ row (codes "or") 8744 0 ∷ row (codes "orarr") 8635 0 ∷
    row (codes "ord") 10845 0 ∷ row (codes "order") 8500 0 ∷ row (codes "orderof") 8500 0 ∷ row (codes "ordf") 170 0 ∷
    row (codes "ordm") 186 0 ∷ row (codes "origof") 8886 0 ∷ row (codes "oror") 10838 0 ∷ row (codes "orslope") 10839 0 ∷
    row (codes "orv") 10843 0 ∷ row (codes "oscr") 8500 0 ∷ row (codes "oslash") 248 0 ∷ row (codes "osol") 8856 0 ∷
    row (codes "otilde") 245 0 ∷ row (codes "otimes") 8855 0 ∷ row (codes "otimesas") 10806 0 ∷ row (codes "ouml") 246 0 ∷
    row (codes "ovbar") 9021 0 ∷ []

abbrev pub small_p : List Row
small_p =
    row (codes "par") 8741 0 ∷ row (codes "para") 182 0 ∷ row (codes "parallel") 8741 0 ∷ row (codes "parsim") 10995 0 ∷
    row (codes "parsl") 11005 0 ∷ row (codes "part") 8706 0 ∷ row (codes "pcy") 1087 0 ∷ row (codes "percnt") 37 0 ∷
    row (codes "period") 46 0 ∷ row (codes "permil") 8240 0 ∷ row (codes "perp") 8869 0 ∷ row (codes "pertenk") 8241 0 ∷
    row (codes "pfr") 120109 0 ∷ row (codes "phi") 966 0 ∷ row (codes "phiv") 981 0 ∷ row (codes "phmmat") 8499 0 ∷
    row (codes "phone") 9742 0 ∷ row (codes "pi") 960 0 ∷ row (codes "pitchfork") 8916 0 ∷ row (codes "piv") 982 0 ∷
    row (codes "planck") 8463 0 ∷ row (codes "planckh") 8462 0 ∷ row (codes "plankv") 8463 0 ∷ row (codes "plus") 43 0 ∷
    row (codes "plusacir") 10787 0 ∷ row (codes "plusb") 8862 0 ∷ row (codes "pluscir") 10786 0 ∷ row (codes "plusdo") 8724 0 ∷
    row (codes "plusdu") 10789 0 ∷ row (codes "pluse") 10866 0 ∷ row (codes "plusmn") 177 0 ∷ row (codes "plussim") 10790 0 ∷
    row (codes "plustwo") 10791 0 ∷ row (codes "pm") 177 0 ∷ row (codes "pointint") 10773 0 ∷ row (codes "popf") 120161 0 ∷
    row (codes "pound") 163 0 ∷ row (codes "pr") 8826 0 ∷ row (codes "prE") 10931 0 ∷ row (codes "prap") 10935 0 ∷
    row (codes "prcue") 8828 0 ∷ row (codes "pre") 10927 0 ∷ row (codes "prec") 8826 0 ∷ row (codes "precapprox") 10935 0 ∷
    row (codes "preccurlyeq") 8828 0 ∷ row (codes "preceq") 10927 0 ∷ row (codes "precnapprox") 10937 0 ∷ row (codes "precneqq") 10933 0 ∷
    row (codes "precnsim") 8936 0 ∷ row (codes "precsim") 8830 0 ∷ row (codes "prime") 8242 0 ∷ row (codes "primes") 8473 0 ∷
    row (codes "prnE") 10933 0 ∷ row (codes "prnap") 10937 0 ∷ row (codes "prnsim") 8936 0 ∷ row (codes "prod") 8719 0 ∷
    row (codes "profalar") 9006 0 ∷ row (codes "profline") 8978 0 ∷ row (codes "profsurf") 8979 0 ∷ row (codes "prop") 8733 0 ∷
    row (codes "propto") 8733 0 ∷ row (codes "prsim") 8830 0 ∷ row (codes "prurel") 8880 0 ∷ row (codes "pscr") 120005 0 ∷
    row (codes "psi") 968 0 ∷ row (codes "puncsp") 8200 0 ∷ []

abbrev pub small_q : List Row
small_q =
    row (codes "qfr") 120110 0 ∷ row (codes "qint") 10764 0 ∷ row (codes "qopf") 120162 0 ∷ row (codes "qprime") 8279 0 ∷
    row (codes "qscr") 120006 0 ∷ row (codes "quaternions") 8461 0 ∷ row (codes "quatint") 10774 0 ∷ row (codes "quest") 63 0 ∷
    row (codes "questeq") 8799 0 ∷ row (codes "quot") 34 0 ∷ []

abbrev pub small_r : List Row
small_r =
    row (codes "rAarr") 8667 0 ∷ row (codes "rArr") 8658 0 ∷ row (codes "rAtail") 10524 0 ∷ row (codes "rBarr") 10511 0 ∷
    row (codes "rHar") 10596 0 ∷ row (codes "race") 8765 817 ∷ row (codes "racute") 341 0 ∷ row (codes "radic") 8730 0 ∷
    row (codes "raemptyv") 10675 0 ∷ row (codes "rang") 10217 0 ∷ row (codes "rangd") 10642 0 ∷ row (codes "range") 10661 0 ∷
    row (codes "rangle") 10217 0 ∷ row (codes "raquo") 187 0 ∷ row (codes "rarr") 8594 0 ∷ row (codes "rarrap") 10613 0 ∷
    row (codes "rarrb") 8677 0 ∷ row (codes "rarrbfs") 10528 0 ∷ row (codes "rarrc") 10547 0 ∷ row (codes "rarrfs") 10526 0 ∷
    row (codes "rarrhk") 8618 0 ∷ row (codes "rarrlp") 8620 0 ∷ row (codes "rarrpl") 10565 0 ∷ row (codes "rarrsim") 10612 0 ∷
    row (codes "rarrtl") 8611 0 ∷ row (codes "rarrw") 8605 0 ∷ row (codes "ratail") 10522 0 ∷ row (codes "ratio") 8758 0 ∷
    row (codes "rationals") 8474 0 ∷ row (codes "rbarr") 10509 0 ∷ row (codes "rbbrk") 10099 0 ∷ row (codes "rbrace") 125 0 ∷
    row (codes "rbrack") 93 0 ∷ row (codes "rbrke") 10636 0 ∷ row (codes "rbrksld") 10638 0 ∷ row (codes "rbrkslu") 10640 0 ∷
    row (codes "rcaron") 345 0 ∷ row (codes "rcedil") 343 0 ∷ row (codes "rceil") 8969 0 ∷ row (codes "rcub") 125 0 ∷
    row (codes "rcy") 1088 0 ∷ row (codes "rdca") 10551 0 ∷ row (codes "rdldhar") 10601 0 ∷ row (codes "rdquo") 8221 0 ∷
    row (codes "rdquor") 8221 0 ∷ row (codes "rdsh") 8627 0 ∷ row (codes "real") 8476 0 ∷ row (codes "realine") 8475 0 ∷
    row (codes "realpart") 8476 0 ∷ row (codes "reals") 8477 0 ∷ row (codes "rect") 9645 0 ∷ row (codes "reg") 174 0 ∷
    row (codes "rfisht") 10621 0 ∷ row (codes "rfloor") 8971 0 ∷ row (codes "rfr") 120111 0 ∷ row (codes "rhard") 8641 0 ∷
    row (codes "rharu") 8640 0 ∷ row (codes "rharul") 10604 0 ∷ row (codes "rho") 961 0 ∷ row (codes "rhov") 1009 0 ∷
    row (codes "rightarrow") 8594 0 ∷ row (codes "rightarrowtail") 8611 0 ∷ row (codes "rightharpoondown") 8641 0 ∷
    row (codes "rightharpoonup") 8640 0 ∷ row (codes "rightleftarrows") 8644 0 ∷ row (codes "rightleftharpoons") 8652 0 ∷
    row (codes "rightrightarrows") 8649 0 ∷ row (codes "rightsquigarrow") 8605 0 ∷ row (codes "rightthreetimes") 8908 0 ∷
    row (codes "ring") 730 0 ∷ row (codes "risingdotseq") 8787 0 ∷ row (codes "rlarr") 8644 0 ∷ row (codes "rlhar") 8652 0 ∷
    row (codes "rlm") 8207 0 ∷ row (codes "rmoust") 9137 0 ∷ row (codes "rmoustache") 9137 0 ∷ row (codes "rnmid") 10990 0 ∷
    row (codes "roang") 10221 0 ∷ row (codes "roarr") 8702 0 ∷ row (codes "robrk") 10215 0 ∷ row (codes "ropar") 10630 0 ∷
    row (codes "ropf") 120163 0 ∷ row (codes "roplus") 10798 0 ∷ row (codes "rotimes") 10805 0 ∷ row (codes "rpar") 41 0 ∷
    row (codes "rpargt") 10644 0 ∷ row (codes "rppolint") 10770 0 ∷ row (codes "rrarr") 8649 0 ∷ row (codes "rsaquo") 8250 0 ∷
    row (codes "rscr") 120007 0 ∷ row (codes "rsh") 8625 0 ∷ row (codes "rsqb") 93 0 ∷ row (codes "rsquo") 8217 0 ∷
    row (codes "rsquor") 8217 0 ∷ row (codes "rthree") 8908 0 ∷ row (codes "rtimes") 8906 0 ∷ row (codes "rtri") 9657 0 ∷
    row (codes "rtrie") 8885 0 ∷ row (codes "rtrif") 9656 0 ∷ row (codes "rtriltri") 10702 0 ∷ row (codes "ruluhar") 10600 0 ∷
    row (codes "rx") 8478 0 ∷ []

abbrev pub small_s : List Row
small_s =
    row (codes "sacute") 347 0 ∷ row (codes "sbquo") 8218 0 ∷ row (codes "sc") 8827 0 ∷ row (codes "scE") 10932 0 ∷
    row (codes "scap") 10936 0 ∷ row (codes "scaron") 353 0 ∷ row (codes "sccue") 8829 0 ∷ row (codes "sce") 10928 0 ∷
    row (codes "scedil") 351 0 ∷ row (codes "scirc") 349 0 ∷ row (codes "scnE") 10934 0 ∷ row (codes "scnap") 10938 0 ∷
    row (codes "scnsim") 8937 0 ∷ row (codes "scpolint") 10771 0 ∷ row (codes "scsim") 8831 0 ∷ row (codes "scy") 1089 0 ∷
    row (codes "sdot") 8901 0 ∷ row (codes "sdotb") 8865 0 ∷ row (codes "sdote") 10854 0 ∷ row (codes "seArr") 8664 0 ∷
    row (codes "searhk") 10533 0 ∷ row (codes "searr") 8600 0 ∷ row (codes "searrow") 8600 0 ∷ row (codes "sect") 167 0 ∷
    row (codes "semi") 59 0 ∷ row (codes "seswar") 10537 0 ∷ row (codes "setminus") 8726 0 ∷ row (codes "setmn") 8726 0 ∷
    row (codes "sext") 10038 0 ∷ row (codes "sfr") 120112 0 ∷ row (codes "sfrown") 8994 0 ∷ row (codes "sharp") 9839 0 ∷
    row (codes "shchcy") 1097 0 ∷ row (codes "shcy") 1096 0 ∷ row (codes "shortmid") 8739 0 ∷ row (codes "shortparallel") 8741 0 ∷
    row (codes "shy") 173 0 ∷ row (codes "sigma") 963 0 ∷ row (codes "sigmaf") 962 0 ∷ row (codes "sigmav") 962 0 ∷
    row (codes "sim") 8764 0 ∷ row (codes "simdot") 10858 0 ∷ row (codes "sime") 8771 0 ∷ row (codes "simeq") 8771 0 ∷
    row (codes "simg") 10910 0 ∷ row (codes "simgE") 10912 0 ∷ row (codes "siml") 10909 0 ∷ row (codes "simlE") 10911 0 ∷
    row (codes "simne") 8774 0 ∷ row (codes "simplus") 10788 0 ∷ row (codes "simrarr") 10610 0 ∷ row (codes "slarr") 8592 0 ∷
    row (codes "smallsetminus") 8726 0 ∷ row (codes "smashp") 10803 0 ∷ row (codes "smeparsl") 10724 0 ∷ row (codes "smid") 8739 0 ∷
    row (codes "smile") 8995 0 ∷ row (codes "smt") 10922 0 ∷ row (codes "smte") 10924 0 ∷ row (codes "smtes") 10924 65024 ∷
    row (codes "softcy") 1100 0 ∷ row (codes "sol") 47 0 ∷ row (codes "solb") 10692 0 ∷ row (codes "solbar") 9023 0 ∷
    row (codes "sopf") 120164 0 ∷ row (codes "spades") 9824 0 ∷ row (codes "spadesuit") 9824 0 ∷ row (codes "spar") 8741 0 ∷
    row (codes "sqcap") 8851 0 ∷ row (codes "sqcaps") 8851 65024 ∷ row (codes "sqcup") 8852 0 ∷ row (codes "sqcups") 8852 65024 ∷
    row (codes "sqsub") 8847 0 ∷ row (codes "sqsube") 8849 0 ∷ row (codes "sqsubset") 8847 0 ∷ row (codes "sqsubseteq") 8849 0 ∷
    row (codes "sqsup") 8848 0 ∷ row (codes "sqsupe") 8850 0 ∷ row (codes "sqsupset") 8848 0 ∷ row (codes "sqsupseteq") 8850 0 ∷
    row (codes "squ") 9633 0 ∷ row (codes "square") 9633 0 ∷ row (codes "squarf") 9642 0 ∷ row (codes "squf") 9642 0 ∷
    row (codes "srarr") 8594 0 ∷ row (codes "sscr") 120008 0 ∷ row (codes "ssetmn") 8726 0 ∷ row (codes "ssmile") 8995 0 ∷
    row (codes "sstarf") 8902 0 ∷ row (codes "star") 9734 0 ∷ row (codes "starf") 9733 0 ∷ row (codes "straightepsilon") 1013 0 ∷
    row (codes "straightphi") 981 0 ∷ row (codes "strns") 175 0 ∷ row (codes "sub") 8834 0 ∷ row (codes "subE") 10949 0 ∷
    row (codes "subdot") 10941 0 ∷ row (codes "sube") 8838 0 ∷ row (codes "subedot") 10947 0 ∷ row (codes "submult") 10945 0 ∷
    row (codes "subnE") 10955 0 ∷ row (codes "subne") 8842 0 ∷ row (codes "subplus") 10943 0 ∷ row (codes "subrarr") 10617 0 ∷
    row (codes "subset") 8834 0 ∷ row (codes "subseteq") 8838 0 ∷ row (codes "subseteqq") 10949 0 ∷ row (codes "subsetneq") 8842 0 ∷
    row (codes "subsetneqq") 10955 0 ∷ row (codes "subsim") 10951 0 ∷ row (codes "subsub") 10965 0 ∷ row (codes "subsup") 10963 0 ∷
    row (codes "succ") 8827 0 ∷ row (codes "succapprox") 10936 0 ∷ row (codes "succcurlyeq") 8829 0 ∷ row (codes "succeq") 10928 0 ∷
    row (codes "succnapprox") 10938 0 ∷ row (codes "succneqq") 10934 0 ∷ row (codes "succnsim") 8937 0 ∷ row (codes "succsim") 8831 0 ∷
    row (codes "sum") 8721 0 ∷ row (codes "sung") 9834 0 ∷ row (codes "sup") 8835 0 ∷ row (codes "sup1") 185 0 ∷ row (codes "sup2") 178 0 ∷
    row (codes "sup3") 179 0 ∷ row (codes "supE") 10950 0 ∷ row (codes "supdot") 10942 0 ∷ row (codes "supdsub") 10968 0 ∷
    row (codes "supe") 8839 0 ∷ row (codes "supedot") 10948 0 ∷ row (codes "suphsol") 10185 0 ∷ row (codes "suphsub") 10967 0 ∷
    row (codes "suplarr") 10619 0 ∷ row (codes "supmult") 10946 0 ∷ row (codes "supnE") 10956 0 ∷ row (codes "supne") 8843 0 ∷
    row (codes "supplus") 10944 0 ∷ row (codes "supset") 8835 0 ∷ row (codes "supseteq") 8839 0 ∷ row (codes "supseteqq") 10950 0 ∷
    row (codes "supsetneq") 8843 0 ∷ row (codes "supsetneqq") 10956 0 ∷ row (codes "supsim") 10952 0 ∷ row (codes "supsub") 10964 0 ∷
    row (codes "supsup") 10966 0 ∷ row (codes "swArr") 8665 0 ∷ row (codes "swarhk") 10534 0 ∷ row (codes "swarr") 8601 0 ∷
    row (codes "swarrow") 8601 0 ∷ row (codes "swnwar") 10538 0 ∷ row (codes "szlig") 223 0 ∷ []

abbrev pub small_t : List Row
small_t =
    row (codes "target") 8982 0 ∷ row (codes "tau") 964 0 ∷ row (codes "tbrk") 9140 0 ∷ row (codes "tcaron") 357 0 ∷
    row (codes "tcedil") 355 0 ∷ row (codes "tcy") 1090 0 ∷ row (codes "tdot") 8411 0 ∷ row (codes "telrec") 8981 0 ∷
    row (codes "tfr") 120113 0 ∷ row (codes "there4") 8756 0 ∷ row (codes "therefore") 8756 0 ∷ row (codes "theta") 952 0 ∷
    row (codes "thetasym") 977 0 ∷ row (codes "thetav") 977 0 ∷ row (codes "thickapprox") 8776 0 ∷ row (codes "thicksim") 8764 0 ∷
    row (codes "thinsp") 8201 0 ∷ row (codes "thkap") 8776 0 ∷ row (codes "thksim") 8764 0 ∷ row (codes "thorn") 254 0 ∷
    row (codes "tilde") 732 0 ∷ row (codes "times") 215 0 ∷ row (codes "timesb") 8864 0 ∷ row (codes "timesbar") 10801 0 ∷
    row (codes "timesd") 10800 0 ∷ row (codes "tint") 8749 0 ∷ row (codes "toea") 10536 0 ∷ row (codes "top") 8868 0 ∷
    row (codes "topbot") 9014 0 ∷ row (codes "topcir") 10993 0 ∷ row (codes "topf") 120165 0 ∷ row (codes "topfork") 10970 0 ∷
    row (codes "tosa") 10537 0 ∷ row (codes "tprime") 8244 0 ∷ row (codes "trade") 8482 0 ∷ row (codes "triangle") 9653 0 ∷
    row (codes "triangledown") 9663 0 ∷ row (codes "triangleleft") 9667 0 ∷ row (codes "trianglelefteq") 8884 0 ∷
    row (codes "triangleq") 8796 0 ∷ row (codes "triangleright") 9657 0 ∷ row (codes "trianglerighteq") 8885 0 ∷
    row (codes "tridot") 9708 0 ∷ row (codes "trie") 8796 0 ∷ row (codes "triminus") 10810 0 ∷ row (codes "triplus") 10809 0 ∷
    row (codes "trisb") 10701 0 ∷ row (codes "tritime") 10811 0 ∷ row (codes "trpezium") 9186 0 ∷ row (codes "tscr") 120009 0 ∷
    row (codes "tscy") 1094 0 ∷ row (codes "tshcy") 1115 0 ∷ row (codes "tstrok") 359 0 ∷ row (codes "twixt") 8812 0 ∷
    row (codes "twoheadleftarrow") 8606 0 ∷ row (codes "twoheadrightarrow") 8608 0 ∷ []

abbrev pub small_u : List Row
small_u =
    row (codes "uArr") 8657 0 ∷ row (codes "uHar") 10595 0 ∷ row (codes "uacute") 250 0 ∷ row (codes "uarr") 8593 0 ∷
    row (codes "ubrcy") 1118 0 ∷ row (codes "ubreve") 365 0 ∷ row (codes "ucirc") 251 0 ∷ row (codes "ucy") 1091 0 ∷
    row (codes "udarr") 8645 0 ∷ row (codes "udblac") 369 0 ∷ row (codes "udhar") 10606 0 ∷ row (codes "ufisht") 10622 0 ∷
    row (codes "ufr") 120114 0 ∷ row (codes "ugrave") 249 0 ∷ row (codes "uharl") 8639 0 ∷ row (codes "uharr") 8638 0 ∷
    row (codes "uhblk") 9600 0 ∷ row (codes "ulcorn") 8988 0 ∷ row (codes "ulcorner") 8988 0 ∷ row (codes "ulcrop") 8975 0 ∷
    row (codes "ultri") 9720 0 ∷ row (codes "umacr") 363 0 ∷ row (codes "uml") 168 0 ∷ row (codes "uogon") 371 0 ∷
    row (codes "uopf") 120166 0 ∷ row (codes "uparrow") 8593 0 ∷ row (codes "updownarrow") 8597 0 ∷ row (codes "upharpoonleft") 8639 0 ∷
    row (codes "upharpoonright") 8638 0 ∷ row (codes "uplus") 8846 0 ∷ row (codes "upsi") 965 0 ∷ row (codes "upsih") 978 0 ∷
    row (codes "upsilon") 965 0 ∷ row (codes "upuparrows") 8648 0 ∷ row (codes "urcorn") 8989 0 ∷ row (codes "urcorner") 8989 0 ∷
    row (codes "urcrop") 8974 0 ∷ row (codes "uring") 367 0 ∷ row (codes "urtri") 9721 0 ∷ row (codes "uscr") 120010 0 ∷
    row (codes "utdot") 8944 0 ∷ row (codes "utilde") 361 0 ∷ row (codes "utri") 9653 0 ∷ row (codes "utrif") 9652 0 ∷
    row (codes "uuarr") 8648 0 ∷ row (codes "uuml") 252 0 ∷ row (codes "uwangle") 10663 0 ∷ []

abbrev pub small_v : List Row
small_v =
    row (codes "vArr") 8661 0 ∷ row (codes "vBar") 10984 0 ∷ row (codes "vBarv") 10985 0 ∷ row (codes "vDash") 8872 0 ∷
    row (codes "vangrt") 10652 0 ∷ row (codes "varepsilon") 1013 0 ∷ row (codes "varkappa") 1008 0 ∷ row (codes "varnothing") 8709 0 ∷
    row (codes "varphi") 981 0 ∷ row (codes "varpi") 982 0 ∷ row (codes "varpropto") 8733 0 ∷ row (codes "varr") 8597 0 ∷
    row (codes "varrho") 1009 0 ∷ row (codes "varsigma") 962 0 ∷ row (codes "varsubsetneq") 8842 65024 ∷
    row (codes "varsubsetneqq") 10955 65024 ∷ row (codes "varsupsetneq") 8843 65024 ∷ row (codes "varsupsetneqq") 10956 65024 ∷
    row (codes "vartheta") 977 0 ∷ row (codes "vartriangleleft") 8882 0 ∷ row (codes "vartriangleright") 8883 0 ∷
    row (codes "vcy") 1074 0 ∷ row (codes "vdash") 8866 0 ∷ row (codes "vee") 8744 0 ∷ row (codes "veebar") 8891 0 ∷
    row (codes "veeeq") 8794 0 ∷ row (codes "vellip") 8942 0 ∷ row (codes "verbar") 124 0 ∷ row (codes "vert") 124 0 ∷
    row (codes "vfr") 120115 0 ∷ row (codes "vltri") 8882 0 ∷ row (codes "vnsub") 8834 8402 ∷ row (codes "vnsup") 8835 8402 ∷
    row (codes "vopf") 120167 0 ∷ row (codes "vprop") 8733 0 ∷ row (codes "vrtri") 8883 0 ∷ row (codes "vscr") 120011 0 ∷
    row (codes "vsubnE") 10955 65024 ∷ row (codes "vsubne") 8842 65024 ∷ row (codes "vsupnE") 10956 65024 ∷
    row (codes "vsupne") 8843 65024 ∷ row (codes "vzigzag") 10650 0 ∷ []

abbrev pub small_w : List Row
small_w =
    row (codes "wcirc") 373 0 ∷ row (codes "wedbar") 10847 0 ∷ row (codes "wedge") 8743 0 ∷ row (codes "wedgeq") 8793 0 ∷
    row (codes "weierp") 8472 0 ∷ row (codes "wfr") 120116 0 ∷ row (codes "wopf") 120168 0 ∷ row (codes "wp") 8472 0 ∷
    row (codes "wr") 8768 0 ∷ row (codes "wreath") 8768 0 ∷ row (codes "wscr") 120012 0 ∷ []

abbrev pub small_x : List Row
small_x =
    row (codes "xcap") 8898 0 ∷ row (codes "xcirc") 9711 0 ∷ row (codes "xcup") 8899 0 ∷ row (codes "xdtri") 9661 0 ∷
    row (codes "xfr") 120117 0 ∷ row (codes "xhArr") 10234 0 ∷ row (codes "xharr") 10231 0 ∷ row (codes "xi") 958 0 ∷
    row (codes "xlArr") 10232 0 ∷ row (codes "xlarr") 10229 0 ∷ row (codes "xmap") 10236 0 ∷ row (codes "xnis") 8955 0 ∷
    row (codes "xodot") 10752 0 ∷ row (codes "xopf") 120169 0 ∷ row (codes "xoplus") 10753 0 ∷ row (codes "xotime") 10754 0 ∷
    row (codes "xrArr") 10233 0 ∷ row (codes "xrarr") 10230 0 ∷ row (codes "xscr") 120013 0 ∷ row (codes "xsqcup") 10758 0 ∷
    row (codes "xuplus") 10756 0 ∷ row (codes "xutri") 9651 0 ∷ row (codes "xvee") 8897 0 ∷ row (codes "xwedge") 8896 0 ∷ []

abbrev pub small_y : List Row
small_y =
    row (codes "yacute") 253 0 ∷ row (codes "yacy") 1103 0 ∷ row (codes "ycirc") 375 0 ∷ row (codes "ycy") 1099 0 ∷
    row (codes "yen") 165 0 ∷ row (codes "yfr") 120118 0 ∷ row (codes "yicy") 1111 0 ∷ row (codes "yopf") 120170 0 ∷
    row (codes "yscr") 120014 0 ∷ row (codes "yucy") 1102 0 ∷ row (codes "yuml") 255 0 ∷ []

abbrev pub small_z : List Row
small_z =
    row (codes "zacute") 378 0 ∷ row (codes "zcaron") 382 0 ∷ row (codes "zcy") 1079 0 ∷ row (codes "zdot") 380 0 ∷
    row (codes "zeetrf") 8488 0 ∷ row (codes "zeta") 950 0 ∷ row (codes "zfr") 120119 0 ∷ row (codes "zhcy") 1078 0 ∷
    row (codes "zigrarr") 8669 0 ∷ row (codes "zopf") 120171 0 ∷ row (codes "zscr") 120015 0 ∷ row (codes "zwj") 8205 0 ∷
    row (codes "zwnj") 8204 0 ∷ []

-- the names that begin with a letter
abbrev pub names_with : ℕ → List Row
names_with letter =
    if letter == 65 then large_a
    else if letter == 66 then large_b
    else if letter == 67 then large_c
    else if letter == 68 then large_d
    else if letter == 69 then large_e
    else if letter == 70 then large_f
    else if letter == 71 then large_g
    else if letter == 72 then large_h
    else if letter == 73 then large_i
    else if letter == 74 then large_j
    else if letter == 75 then large_k
    else if letter == 76 then large_l
    else if letter == 77 then large_m
    else if letter == 78 then large_n
    else if letter == 79 then large_o
    else if letter == 80 then large_p
    else if letter == 81 then large_q
    else if letter == 82 then large_r
    else if letter == 83 then large_s
    else if letter == 84 then large_t
    else if letter == 85 then large_u
    else if letter == 86 then large_v
    else if letter == 87 then large_w
    else if letter == 88 then large_x
    else if letter == 89 then large_y
    else if letter == 90 then large_z
    else if letter == 97 then small_a
    else if letter == 98 then small_b
    else if letter == 99 then small_c
    else if letter == 100 then small_d
    else if letter == 101 then small_e
    else if letter == 102 then small_f
    else if letter == 103 then small_g
    else if letter == 104 then small_h
    else if letter == 105 then small_i
    else if letter == 106 then small_j
    else if letter == 107 then small_k
    else if letter == 108 then small_l
    else if letter == 109 then small_m
    else if letter == 110 then small_n
    else if letter == 111 then small_o
    else if letter == 112 then small_p
    else if letter == 113 then small_q
    else if letter == 114 then small_r
    else if letter == 115 then small_s
    else if letter == 116 then small_t
    else if letter == 117 then small_u
    else if letter == 118 then small_v
    else if letter == 119 then small_w
    else if letter == 120 then small_x
    else if letter == 121 then small_y
    else if letter == 122 then small_z
    else []
