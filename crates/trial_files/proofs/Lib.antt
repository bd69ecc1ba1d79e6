mod Chair
